-- The code of a node runs as the node's walk does, where that of the nodes that it leads to runs as theirs.
use Rattle.std.proofs.Common.{◌≡◌, ℕ, ◌+◌, List, [], ◌∷◌, ◌++◌, length, map, reverse, Option, Some, None, inl, inr, refl, sym, ap, subst, ◌∙◌, arith, append_assoc}
use Rattle.std.specs.Prelude.{IfSome}
use Rattle.std.specs.List.{slice_get, flat_map, AllByRecursion}
use Rattle.flux_values.specs.declared.values.Value.{Value}
use Rattle.flux_values.specs.declared.answers.Answer.{Answer}
use Rattle.flux_values.specs.declared.answers.CallResult.{CallResult}
use Rattle.flux_values.specs.declared.answers.CallResult.TheVariants as results
use Rattle.flux_model.specs.declared.programs.NodeNo.{NodeNo}
use Rattle.flux_model.specs.declared.programs.Node.{Node}
use Rattle.flux_model.specs.declared.programs.Hold.{Hold}
use Rattle.flux_model.specs.declared.programs.Case.{Case}
use Rattle.flux_model.specs.declared.programs.HandleArm.{HandleArm}
use Rattle.flux_model.specs.declared.programs.Body.{Body}
use Rattle.flux_model.specs.declared.programs.Body.TheVariants.{Concrete, Abstract}
use Rattle.flow_model.specs.declared.journals.Outcome.{Outcome}
use Rattle.flow_model.specs.declared.journals.Outcome.TheVariants.{Good, Over, Bad}
use Rattle.flow_model.specs.declared.journals.Event.{Event}
use Rattle.flow_model.specs.declared.journals.Event.TheVariants as events
use Rattle.flux_model.specs.Leading.{members_of, handlers_of, leads_to}
use Rattle.flux_model.specs.Children.{IsIn}
use Rattle.flow_model.specs.Matching.{first_case, handler_for}
use Rattle.flow_model.specs.Walk.{Given, Ended, Walked, Walking, then, ended_by, call, while_good, go_on, members_walk, case_walk, body_walk, leaving, enclosed, over, handler_walk, handled, walk_by}
use Rattle.flux_model.proofs.NodeLists.{in_front, in_behind}
use Rattle.flux_plan.specs.declared.plans.Segment.{Segment}
use Rattle.flux_plan.specs.declared.plans.Arm.{Arm}
use Rattle.flux_plan.specs.declared.plans.Instr.{Instr}
use Rattle.flux_plan.specs.declared.plans.Instr.TheVariants as instrs
use Rattle.flux_plan.specs.declared.stacks.Frame.{Frame}
use Rattle.flux_plan.specs.Machine.{State, takes, enters, chooses, exits, drops, silent, acts, first_arm, chosen, returned, obeyed, step_of, step_in, step, entering, resulting}
use Rattle.flux_plan.specs.Machine as machine
use Rattle.flux_plan.specs.Runs.{run, run_step}
use Rattle.flux_plan.proofs.RunLemmas.{so_far, Comes, comes-then}
use Rattle.flux_plan.proofs.Stepping.{handler_holds}
use Rattle.flux_compile.specs.steps.Segments.{taking, dropping, arms_from, body_code, handling_code, node_code, exit_place, segment_of}
use Rattle.flux_compile.proofs.walking.Arriving.{Agree, Goal, Arrives, RunsTo, comes-still, comes-silent, comes-acts, comes-follows, follows-silent, follows-then, follows-on}
use Rattle.flux_compile.proofs.walking.Places.{Stand, stand-append, stand-map, stand-whole, AreOne, arms-one}

-- the parts of a node's code, one after the other
node_parts : (holds : List Hold) (node : Node) → node_code holds node ≡ map taking holds ++ (instrs.Enter ∷ (body_code (length holds + 1) node.body
    ++ (instrs.Exit ∷ (map dropping (reverse holds) ++ (handling_code node.on_fail ++ instrs.Return ∷ [])))))
node_parts holds node =
    let opening = map taking holds in
    let body = instrs.Enter ∷ body_code (length holds + 1) node.body in
    let closing = instrs.Exit ∷ map dropping (reverse holds) in
    let last = instrs.Return ∷ [] in
    append_assoc (opening ++ body ++ closing) (handling_code node.on_fail) last
    ∙ append_assoc (opening ++ body) closing (handling_code node.on_fail ++ last)
    ∙ append_assoc opening body (closing ++ (handling_code node.on_fail ++ last))

-- a node's frame at a place, over those below
abbrev pub standing : ℕ → List Value → List Frame → ℕ → Goal
standing number inputs below place outcome values = record {
  frames = record { node = record { 0 = number }; place = place; inputs = inputs } ∷ below;
  values = values;
  outcome = outcome;
}

module _ (segments : List Segment) (given : Given) where
  -- a node's code runs as a walk, up to a `Return`
  pub record RunsUp (number : ℕ) (walking : Walking) (values : List Value) (answers : List Answer) (below : List Frame) : Type 0 where
    pub place : ℕ
    pub returns : (outcome : Outcome) (own : List Value) → step segments given.matches (standing number values below place outcome own) ≡ returned below own outcome
    pub runs : RunsTo segments given.key given.matches (standing number values below place) (entering (record { 0 = number }) values below) answers (walking values answers)

  -- it does so on all values, answers and frames below
  abbrev pub IsRun : ℕ → Walking → Type 0
  IsRun number walking = (values : List Value) (answers : List Answer) (below : List Frame) → RunsUp number walking values answers below

  -- after it the frame that entered it goes on
  runs_inside : (number : ℕ) (walking : Walking) → IsRun number walking → (values : List Value) (answers : List Answer) (frame : Frame) (below : List Frame)
      → RunsTo segments given.key given.matches (λ outcome own. record { frames = frame ∷ below; values = own; outcome = outcome })
      (entering (record { 0 = number }) values (frame ∷ below)) answers (walking values answers)
  runs_inside number walking is values answers frame below =
      let up = is values answers (frame ∷ below) in
      follows-on segments given.key given.matches (standing number values (frame ∷ below) up.place) (λ outcome own. record { frames = frame ∷ below; values = own; outcome = outcome })
      (entering (record { 0 = number }) values (frame ∷ below)) answers (walking values answers) up.runs
      (λ outcome own left. comes-silent segments given.key given.matches (standing number values (frame ∷ below) up.place outcome own) (record { frames = frame ∷ below; values = own; outcome = outcome }) left (up.returns outcome own))

  -- ---- one node's code

  module _ (number : ℕ) (inputs : List Value) (below : List Frame) (code : List Instr) (exit : ℕ)
      (is : slice_get segments number ≡ Some (record { code = code; exit = exit })) where
    abbrev self : NodeNo
    self = record { 0 = number }

    abbrev frame : ℕ → Frame
    frame place = record { node = self; place = place; inputs = inputs }

    abbrev at : ℕ → Goal
    at = standing number inputs below

    abbrev Runs : Goal → State → List Answer → Walked → Type 0
    Runs = RunsTo segments given.key given.matches

    abbrev Moves : State → List Answer → List Event → State → List Answer → Type 0
    Moves = Comes segments given.key given.matches

    -- the step of the instruction at a place
    obeys : (place : ℕ) (instr : Instr) (outcome : Outcome) (values : List Value) → slice_get code place ≡ Some instr
        → step segments given.matches (at place outcome values) ≡ obeyed given.matches exit (frame place) below values outcome instr
    obeys place instr outcome values on =
        ap (step_in given.matches (frame place) below values outcome) is
        ∙ ap (step_of given.matches exit (frame place) below values outcome) on

    -- ---- takes and drops

    -- instructions of holds, each with its event
    each_runs : (one : Hold → Instr) (event : Hold → Event) (outcome : Outcome) (values : List Value) (answers : List Answer)
        → ((hold : Hold) (place : ℕ) → slice_get code place ≡ Some (one hold) → Moves (at place outcome values) answers (event hold ∷ []) (at (place + 1) outcome values) answers)
        → (place : ℕ) (holds : List Hold) → Stand code place (map one holds) → Moves (at place outcome values) answers (map event holds) (at (place + length holds) outcome values) answers
    each_runs one event outcome values answers goes place [] all =
        (0, ap (λ (p : ℕ). so_far [] (at p outcome values) answers) (omega arith))
    each_runs one event outcome values answers goes place (hold ∷ holds) (own, all) =
        let behind : place + 1 + length holds ≡ place + length (hold ∷ holds) = omega arith in
        let more = each_runs one event outcome values answers goes (place + 1) holds all in
        comes-then segments given.key given.matches (at place outcome values) answers (event hold ∷ []) (at (place + 1) outcome values) answers (map event holds) (at (place + length (hold ∷ holds)) outcome values) answers
        (goes hold place own) (subst (λ (p : ℕ). Moves (at (place + 1) outcome values) answers (map event holds) (at p outcome values) answers) behind more)

    takes_run : (values : List Value) (answers : List Answer) (place : ℕ) (holds : List Hold) → Stand code place (map taking holds)
        → Moves (at place Good values) answers (map (λ hold. events.Take (given.key hold.class) hold.mode) holds) (at (place + length holds) Good values) answers
    takes_run values answers place holds all =
        each_runs taking (λ hold. events.Take (given.key hold.class) hold.mode) Good values answers
        (λ hold p on. comes-acts segments given.key given.matches (at p Good values) (at (p + 1) Good values) answers (takes hold.class hold.mode) (obeys p (taking hold) Good values on))
        place holds all

    drops_run : (outcome : Outcome) (values : List Value) (answers : List Answer) (place : ℕ) (holds : List Hold) → Stand code place (map dropping holds)
        → Moves (at place outcome values) answers (map (λ hold. events.Drop (given.key hold.class)) holds) (at (place + length holds) outcome values) answers
    drops_run outcome values answers place holds all =
        each_runs dropping (λ hold. events.Drop (given.key hold.class)) outcome values answers
        (λ hold p on. comes-acts segments given.key given.matches (at p outcome values) (at (p + 1) outcome values) answers (drops hold.class) (obeys p (dropping hold) outcome values on))
        place holds all

    -- ---- bodies

    -- a call, with its answer where one is left
    call_runs : (place : ℕ) → slice_get code place ≡ Some instrs.Call → (values : List Value) (answers : List Answer) → Runs (at (place + 1)) (at place Good values) answers (call self values answers)
    call_runs place on values [] = (1, ap (run_step (run segments given.key given.matches 0) given.key (at place Good values) []) (obeys place instrs.Call Good values on))
    call_runs place on values (answer ∷ left) = by answer.result (ap (run_step (run segments given.key given.matches 0) given.key (at place Good values) (answer ∷ left)) (obeys place instrs.Call Good values on))
      where
        by : (result : CallResult) → run segments given.key given.matches 1 (at place Good values) (answer ∷ left) ≡ so_far (events.Call (record { node = self; args = values; answer = answer }) ∷ []) (resulting (frame place) below values Good result) left
            → Arrives segments given.key given.matches (at (place + 1)) (at place Good values) (answer ∷ left) (events.Call (record { node = self; args = values; answer = answer }) ∷ []) (ended_by result left)
        by (results.Good new) e = record { values = new; agree = refl; comes = (1, e) }
        by (results.Bad code) e = record { values = values; agree = tt; comes = (1, e) }

    -- members, and what a case ends with
    abbrev going : List NodeNo → List Instr → List Instr
    going members rest = map instrs.Go members ++ instrs.Leave ∷ rest

    -- with an outcome that isn't good it goes to `exit`
    quits_over : (place : ℕ) (members : List NodeNo) (rest : List Instr) → Stand code place (going members rest) → (values : List Value) (left : List Answer)
        → Moves (at place Over values) left [] (at exit Over values) left
    quits_over place [] rest (own, all) values left = comes-silent segments given.key given.matches (at place Over values) (at exit Over values) left (obeys place instrs.Leave Over values own)
    quits_over place (member ∷ members) rest (own, all) values left = comes-silent segments given.key given.matches (at place Over values) (at exit Over values) left (obeys place (instrs.Go member) Over values own)

    quits_bad : (code_ place : ℕ) (members : List NodeNo) (rest : List Instr) → Stand code place (going members rest) → (values : List Value) (left : List Answer)
        → Moves (at place (Bad code_) values) left [] (at exit (Bad code_) values) left
    quits_bad code_ place [] rest (own, all) values left = comes-silent segments given.key given.matches (at place (Bad code_) values) (at exit (Bad code_) values) left (obeys place instrs.Leave (Bad code_) values own)
    quits_bad code_ place (member ∷ members) rest (own, all) values left = comes-silent segments given.key given.matches (at place (Bad code_) values) (at exit (Bad code_) values) left (obeys place (instrs.Go member) (Bad code_) values own)

    members_run : (walks : ℕ → Walking) (members : List NodeNo) → ((m : ℕ) → IsIn m members → IsRun m (walks m)) → (rest : List Instr) (place : ℕ) → Stand code place (going members rest)
        → (values : List Value) (answers : List Answer) → Runs (at exit) (at place Good values) answers (members_walk walks members values answers)
    members_run walks [] are rest place (own, all) values answers = record {
      values = values;
      agree = refl;
      comes = comes-silent segments given.key given.matches (at place Good values) (at exit Good values) answers (obeys place instrs.Leave Good values own);
    }
    members_run walks (member ∷ members) are rest place (own, all) values answers =
        follows-then segments given.key given.matches (at (place + 1)) (at exit) (at place Good values) answers (walks member.0 values answers) (go_on (members_walk walks members))
        (follows-silent segments given.key given.matches (at (place + 1)) (at place Good values) (entering member values (frame (place + 1) ∷ below)) answers (walks member.0 values answers)
        (obeys place (instrs.Go member) Good values own)
        (runs_inside member.0 (walks member.0) (are member.0 (inl refl)) values answers (frame (place + 1)) below))
        (λ ended last agree. goes_on (members_run walks members (λ m among. are m (inr among)) rest (place + 1) all) ended.outcome ended.values ended.left last agree)
      where
        goes_on : ((vs : List Value) (l : List Answer) → Runs (at exit) (at (place + 1) Good vs) l (members_walk walks members vs l))
            → (outcome : Outcome) (vs : List Value) (l : List Answer) (last : List Value) → Agree outcome last vs → Runs (at exit) (at (place + 1) outcome last) l (while_good (members_walk walks members) outcome vs l)
        goes_on more Good vs l last agree = subst (λ (own : List Value). Runs (at exit) (at (place + 1) Good own) l (members_walk walks members vs l)) (sym agree) (more vs l)
        goes_on more Over vs l last agree = record { values = last; agree = tt; comes = quits_over (place + 1) members rest all last l }
        goes_on more (Bad c) vs l last agree = record { values = last; agree = tt; comes = quits_bad c (place + 1) members rest all last l }

    -- the case that is found, or none
    case_runs : (walks : ℕ → Walking) (cases : List Case) → ((m : ℕ) → IsIn m (flat_map (λ c. c.members) cases) → IsRun m (walks m))
        → (arm : Option (ℕ × Arm)) (found : Option (ℕ × Case)) → AreOne code cases arm found → (place : ℕ) (values : List Value) (answers : List Answer)
        → step segments given.matches (at place Good values) ≡ chosen exit (frame place) below values Good arm
        → Runs (at exit) (at place Good values) answers (case_walk walks found values answers)
    case_runs walks cases are None None one place values answers made = record {
      values = values;
      agree = tt;
      comes = comes-silent segments given.key given.matches (at place Good values) (at exit (Bad 256) values) answers made;
    }
    case_runs walks cases are None (Some found) one place values answers made = absurd one
    case_runs walks cases are (Some arm) None one place values answers made = absurd one
    case_runs walks cases are (Some (n, arm)) (Some (k, case)) (same, stands, among) place values answers made =
        let walked = members_walk walks case.members values answers in
        let own : step segments given.matches (at place Good values) ≡ acts (chooses k) (at arm.to Good values) = made ∙ ap (λ (i : ℕ). acts (chooses i) (at arm.to Good values)) same in
        comes-follows segments given.key given.matches (at exit) (at place Good values) answers (events.Choose k ∷ []) (at arm.to Good values) answers walked.events walked.stop
        (comes-acts segments given.key given.matches (at place Good values) (at arm.to Good values) answers (chooses k) own)
        (members_run walks case.members (λ m is. are m (among m is)) stands.0 arm.to stands.1 values answers)

    -- a body that begins at a place, and ends where `exit` is
    body_runs : (walks : ℕ → Walking) (body : Body) → ((m : ℕ) → IsIn m (members_of body) → IsRun m (walks m)) → (place : ℕ) → Stand code place (body_code place body)
        → place + length (body_code place body) ≡ exit → (values : List Value) (answers : List Answer) → Runs (at exit) (at place Good values) answers (body_walk given walks body self values answers)
    body_runs walks (Concrete name) are place (own, all) ends values answers =
        subst (λ (p : ℕ). Runs (at p) (at place Good values) answers (call self values answers)) ends (call_runs place own values answers)
    body_runs walks (Abstract cases) are place (own, all) ends values answers =
        case_runs walks cases are (first_arm (λ patterns. given.matches patterns values) 1 (arms_from (place + 1) cases)) (first_case (λ case. given.matches case.patterns values) 1 cases)
        (arms-one code (λ patterns. given.matches patterns values) 1 (place + 1) cases all) place values answers
        (obeys place (instrs.Choose (arms_from (place + 1) cases)) Good values own)

    -- ---- handlers

    all_run : (walks : ℕ → Walking) (arms : List HandleArm) → ((m : ℕ) → IsIn m (handlers_of arms) → IsRun m (walks m)) → AllByRecursion (λ arm. IsRun arm.node.0 (walks arm.node.0)) arms
    all_run walks [] are = tt
    all_run walks (arm ∷ arms) are = (are arm.node.0 (inl refl), all_run walks arms (λ m is. are m (inr is)))

    -- by a handler's end the node is over, or fails
    over_runs : (place : ℕ) → slice_get code place ≡ Some instrs.EndHandle → (outcome : Outcome) (values : List Value) (left : List Answer)
        → Runs (at (place + 1)) (at place outcome values) left (over outcome left)
    over_runs place on Good values left = record { values = values; agree = tt; comes = comes-silent segments given.key given.matches (at place Good values) (at (place + 1) Over values) left (obeys place instrs.EndHandle Good values on) }
    over_runs place on Over values left = record { values = values; agree = tt; comes = comes-silent segments given.key given.matches (at place Over values) (at (place + 1) Over values) left (obeys place instrs.EndHandle Over values on) }
    over_runs place on (Bad c) values left = record { values = values; agree = tt; comes = comes-silent segments given.key given.matches (at place (Bad c) values) (at (place + 1) (Bad c) values) left (obeys place instrs.EndHandle (Bad c) values on) }

    -- what follows the drops: from a place on, up to a `Return`
    record Handles (walks : ℕ → Walking) (arms : List HandleArm) (start : ℕ) : Type 0 where
      last : ℕ
      on : slice_get code last ≡ Some instrs.Return
      runs : (outcome : Outcome) (own : List Value) (left : List Answer) (values : List Value) → Agree outcome values own
          → Runs (at last) (at start outcome values) left (handled walks arms inputs outcome (record { outcome = outcome; values = own; left = left }))

    handles_none : (walks : ℕ → Walking) (start : ℕ) → Stand code start (instrs.Return ∷ []) → Handles walks [] start
    handles_none walks start (own, all) = record { last = start; on = own; runs = by }
      where
        by : (outcome : Outcome) (vs : List Value) (left : List Answer) (values : List Value) → Agree outcome values vs
            → Runs (at start) (at start outcome values) left (handled walks [] inputs outcome (record { outcome = outcome; values = vs; left = left }))
        by Good vs left values agree = record { values = values; agree = agree; comes = comes-still segments given.key given.matches (at start Good values) left }
        by Over vs left values agree = record { values = values; agree = tt; comes = comes-still segments given.key given.matches (at start Over values) left }
        by (Bad c) vs left values agree = record { values = values; agree = tt; comes = comes-still segments given.key given.matches (at start (Bad c) values) left }

    handles_some : (walks : ℕ → Walking) (arm : HandleArm) (arms : List HandleArm) → ((m : ℕ) → IsIn m (handlers_of (arm ∷ arms)) → IsRun m (walks m)) → (start : ℕ)
        → Stand code start (instrs.Handle (arm ∷ arms) ∷ instrs.EndHandle ∷ instrs.Return ∷ []) → Handles walks (arm ∷ arms) start
    handles_some walks arm arms are start (own, (ends, (last, all))) = record { last = start + 1 + 1; on = last; runs = by }
      where
        two : start + 2 ≡ start + 1 + 1
        two = omega arith

        -- it goes two places on
        past : (outcome : Outcome) (values : List Value) (left : List Answer) → step segments given.matches (at start outcome values) ≡ silent (at (start + 2) outcome values)
            → Moves (at start outcome values) left [] (at (start + 1 + 1) outcome values) left
        past outcome values left made = comes-silent segments given.key given.matches (at start outcome values) (at (start + 1 + 1) outcome values) left (made ∙ ap (λ (p : ℕ). silent (at p outcome values)) two)

        goes : (c : ℕ) (values : List Value) (left : List Answer) (handler : Option NodeNo) → IfSome handler (λ node. IsRun node.0 (walks node.0))
            → step segments given.matches (at start (Bad c) values) ≡ machine.handled (frame start) below values c handler
            → Runs (at (start + 1 + 1)) (at start (Bad c) values) left (handler_walk walks handler c inputs left)
        goes c values left None run made = record { values = values; agree = tt; comes = past (Bad c) values left made }
        goes c values left (Some handler) run made =
            follows-then segments given.key given.matches (at (start + 1)) (at (start + 1 + 1)) (at start (Bad c) values) left (walks handler.0 inputs left) (λ ended. over ended.outcome ended.left)
            (follows-silent segments given.key given.matches (at (start + 1)) (at start (Bad c) values) (entering handler inputs (frame (start + 1) ∷ below)) left (walks handler.0 inputs left) made
            (runs_inside handler.0 (walks handler.0) run inputs left (frame (start + 1)) below))
            (λ ended values agree. over_runs (start + 1) ends ended.outcome values ended.left)

        by : (outcome : Outcome) (vs : List Value) (left : List Answer) (values : List Value) → Agree outcome values vs
            → Runs (at (start + 1 + 1)) (at start outcome values) left (handled walks (arm ∷ arms) inputs outcome (record { outcome = outcome; values = vs; left = left }))
        by Good vs left values agree = record { values = values; agree = agree; comes = past Good values left (obeys start (instrs.Handle (arm ∷ arms)) Good values own) }
        by Over vs left values agree = record { values = values; agree = tt; comes = past Over values left (obeys start (instrs.Handle (arm ∷ arms)) Over values own) }
        by (Bad c) vs left values agree =
            goes c values left (handler_for (arm ∷ arms) c) (handler_holds (λ m. IsRun m (walks m)) (arm ∷ arms) c (all_run walks (arm ∷ arms) are)) (obeys start (instrs.Handle (arm ∷ arms)) (Bad c) values own)

    handles : (walks : ℕ → Walking) (arms : List HandleArm) → ((m : ℕ) → IsIn m (handlers_of arms) → IsRun m (walks m)) → (start : ℕ)
        → Stand code start (handling_code arms ++ instrs.Return ∷ []) → Handles walks arms start
    handles walks [] are start all = handles_none walks start all
    handles walks (arm ∷ arms) are start all = handles_some walks arm arms are start all

  -- ---- a whole node

  module _ (number : ℕ) (node : Node) (holds : List Hold) (is : slice_get segments number ≡ Some (segment_of holds node))
      (walks : ℕ → Walking) (are : (m : ℕ) → IsIn m (leads_to node) → IsRun m (walks m)) (values : List Value) (answers : List Answer) (below : List Frame) where
    abbrev code_ : List Instr
    code_ = node_code holds node

    abbrev exit_ : ℕ
    exit_ = exit_place holds node

    abbrev body_place : ℕ
    body_place = length holds + 1

    abbrev own : NodeNo
    own = record { 0 = number }

    abbrev behind_drops : List Instr
    behind_drops = handling_code node.on_fail ++ instrs.Return ∷ []

    abbrev behind_exit : List Instr
    behind_exit = map dropping (reverse holds) ++ (handling_code node.on_fail ++ instrs.Return ∷ [])

    abbrev behind_takes : List Instr
    behind_takes = instrs.Enter ∷ (body_code body_place node.body ++ (instrs.Exit ∷ behind_exit))

    -- where the parts of the code are
    takes_stand : Stand code_ 0 (map taking holds) × Stand code_ (0 + length holds) behind_takes
    takes_stand = stand-map code_ 0 taking holds behind_takes (subst (Stand code_ 0) (node_parts holds node) (stand-whole code_))

    none : 0 + length holds ≡ length holds
    none = omega arith

    enter_stands : Stand code_ (length holds) behind_takes
    enter_stands = subst (λ (p : ℕ). Stand code_ p behind_takes) none takes_stand.1

    body_stands : Stand code_ body_place (body_code body_place node.body) × Stand code_ exit_ (instrs.Exit ∷ behind_exit)
    body_stands = stand-append code_ body_place (body_code body_place node.body) (instrs.Exit ∷ behind_exit) enter_stands.1

    abbrev last_place : ℕ
    last_place = exit_ + 1 + length (reverse holds)

    exit_stands : slice_get code_ exit_ ≡ Some instrs.Exit
    exit_stands = body_stands.1.0

    drops_stand : Stand code_ (exit_ + 1) (map dropping (reverse holds)) × Stand code_ last_place behind_drops
    drops_stand = stand-map code_ (exit_ + 1) dropping (reverse holds) behind_drops body_stands.1.1

    abbrev there : ℕ → Goal
    there = standing number values below

    abbrev body : Walked
    body = body_walk given walks node.body own values answers

    body_done : RunsTo segments given.key given.matches (there exit_) (there body_place Good values) answers body
    body_done = body_runs number values below code_ exit_ is walks node.body (λ m i. are m (in_front m (members_of node.body) (handlers_of node.on_fail) i)) body_place body_stands.0 refl values answers

    -- after the body: `exit`, and the drops
    leaves : (ended : Ended) (last : List Value) → Agree ended.outcome last ended.values
        → RunsTo segments given.key given.matches (there last_place) (there exit_ ended.outcome last) ended.left (leaving given.key holds own ended)
    leaves ended last agree = record {
      values = last;
      agree = agree;
      comes = comes-then segments given.key given.matches (there exit_ ended.outcome last) ended.left (events.Exit own ended.outcome ∷ []) (there (exit_ + 1) ended.outcome last) ended.left (map (λ hold. events.Drop (given.key hold.class)) (reverse holds)) (there last_place ended.outcome last) ended.left
          (comes-acts segments given.key given.matches (there exit_ ended.outcome last) (there (exit_ + 1) ended.outcome last) ended.left (exits own ended.outcome)
          (obeys number values below code_ exit_ is exit_ instrs.Exit ended.outcome last exit_stands))
          (drops_run number values below code_ exit_ is ended.outcome last ended.left (exit_ + 1) (reverse holds) drops_stand.0);
    }

    abbrev left_walked : Walked
    left_walked = then body (leaving given.key holds own)

    left_done : RunsTo segments given.key given.matches (there last_place) (there body_place Good values) answers left_walked
    left_done = follows-then segments given.key given.matches (there exit_) (there last_place) (there body_place Good values) answers body (leaving given.key holds own) body_done leaves

    enters_step : Comes segments given.key given.matches (there (length holds) Good values) answers (events.Enter own ∷ []) (there body_place Good values) answers
    enters_step = comes-acts segments given.key given.matches (there (length holds) Good values) (there body_place Good values) answers (enters own)
        (obeys number values below code_ exit_ is (length holds) instrs.Enter Good values enter_stands.0)

    abbrev taken : List Event
    taken = map (λ hold. events.Take (given.key hold.class) hold.mode) holds

    takes_steps : Comes segments given.key given.matches (there 0 Good values) answers taken (there (length holds) Good values) answers
    takes_steps = subst (λ (p : ℕ). Comes segments given.key given.matches (there 0 Good values) answers taken (there p Good values) answers) none
        (takes_run number values below code_ exit_ is values answers 0 holds takes_stand.0)

    enclosed_done : RunsTo segments given.key given.matches (there last_place) (there 0 Good values) answers (enclosed given.key holds own body)
    enclosed_done =
        let more = left_walked in
        comes-follows segments given.key given.matches (there last_place) (there 0 Good values) answers taken (there (length holds) Good values) answers (events.Enter own ∷ more.events) more.stop takes_steps
        (comes-follows segments given.key given.matches (there last_place) (there (length holds) Good values) answers (events.Enter own ∷ []) (there body_place Good values) answers more.events more.stop enters_step left_done)

    after_drops : Handles number values below code_ exit_ is walks node.on_fail last_place
    after_drops = handles number values below code_ exit_ is walks node.on_fail (λ m i. are m (in_behind m (members_of node.body) (handlers_of node.on_fail) i)) last_place drops_stand.1

    whole : let h = after_drops in RunsTo segments given.key given.matches (there h.last) (there 0 Good values) answers
        (then (enclosed given.key holds own body) (λ ended. handled walks node.on_fail values ended.outcome ended))
    whole = let h = after_drops in
        follows-then segments given.key given.matches (there last_place) (there h.last) (there 0 Good values) answers (enclosed given.key holds own body) (λ ended. handled walks node.on_fail values ended.outcome ended)
        enclosed_done (λ ended last agree. h.runs ended.outcome ended.values ended.left last agree)

    node_up : given.locks number ≡ holds → RunsUp number (walk_by given walks number node) values answers below
    node_up locks = let h = after_drops in record {
      place = h.last;
      returns = λ outcome vs. obeys number values below code_ exit_ is h.last instrs.Return outcome vs h.on;
      runs = subst
          (λ (hs : List Hold). RunsTo segments given.key given.matches (there h.last) (there 0 Good values) answers (then (enclosed given.key hs own body) (λ ended. handled walks node.on_fail values ended.outcome ended)))
          (sym locks) whole;
    }

  -- a node's code runs as the node's walk
  pub node-runs : (number : ℕ) (node : Node) (holds : List Hold) → slice_get segments number ≡ Some (segment_of holds node) → given.locks number ≡ holds
      → (walks : ℕ → Walking) → ((m : ℕ) → IsIn m (leads_to node) → IsRun m (walks m)) → IsRun number (walk_by given walks number node)
  node-runs number node holds is locks walks are values answers below = node_up number node holds is walks are values answers below locks
