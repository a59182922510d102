-- From places in plans to walks: what a flow's place says of the flow's walk.
use Rattle.std.proofs.Common.{◌≡◌, ℕ, zero, suc, List, [], ◌∷◌, ◌++◌, Option, Some, None, refl, sym, ap, ◌∙◌, subst}
use Rattle.std.proofs.lemmas.List.{append-nil}
use Rattle.std.specs.Prelude.{IsSome}
use Rattle.std.specs.List.{slice_get}
use Rattle.flux_values.specs.declared.values.Value.{Value}
use Rattle.flux_values.specs.declared.answers.Answer.{Answer}
use Rattle.flux_model.specs.declared.programs.NodeNo.{NodeNo}
use Rattle.flux_model.specs.declared.programs.ClassNo.{ClassNo}
use Rattle.flux_model.specs.declared.programs.SourceLine.{SourceLine}
use Rattle.flux_model.specs.declared.programs.Program.{Program}
use Rattle.flow_model.specs.declared.journals.Key.{Key}
use Rattle.flow_model.specs.declared.journals.Outcome.{Outcome}
use Rattle.flow_model.specs.declared.journals.Outcome.TheVariants.{Good, Over, Bad}
use Rattle.flow_model.specs.Matching.{handler_for}
use Rattle.flux_model.specs.declared.items.Item.{Item}
use Rattle.flow_model.specs.declared.journals.Entry.{Entry}
use Rattle.flow_model.specs.declared.journals.Event.{Event}
use Rattle.flow_model.specs.declared.journals.Event.TheVariants as events
use Rattle.flux_model.specs.Locks.{AreLocks}
use Rattle.flow_model.specs.Walk.{Given, Walked, Stop, walk}
use Rattle.flow_model.specs.Walk as walks
use Rattle.flow_model.specs.Setup.{Setup}
use Rattle.flow_model.specs.Flows.{given_for, target_walk, item_walk, flow_walk, flow_events, with_end, HasEnded}
use Rattle.flow_model.specs.Events.{own_events, own_answers, FollowsWalk, CallIsNext, IsWholePath}
use Rattle.flux_plan.specs.declared.plans.Plan.{Plan}
use Rattle.flux_plan.specs.declared.plans.Segment.{Segment}
use Rattle.flux_plan.specs.declared.plans.Arm.{Arm}
use Rattle.flux_plan.specs.declared.plans.Instr.{Instr}
use Rattle.flux_plan.specs.declared.plans.Instr.TheVariants as instrs
use Rattle.flux_plan.specs.declared.stacks.Frame.{Frame}
use Rattle.flux_plan.specs.declared.locals.Next.{Next}
use Rattle.flux_plan.specs.declared.locals.Next.TheVariants as nexts
use Rattle.flux_plan.specs.Machine.{State, Act, takes, enters, chooses, exits, drops, ends, Step, silent, acts, calls, ended, stuck, Matches, first_arm, chosen, handled, obeyed, step, step_over, step_in, step_of, answered, Position, fresh, at, state_in, values_at, beginning}
use Rattle.flux_plan.specs.Runs.{event_of, at_end, at_call, on_the_way, Ran, after_event, run, run_step, still, run_of, RunsAs, IsPlanOf, AreLinePlans}
use Rattle.flux_plan.specs.Moves.{next_act, next_by, next_in, IsEvent, called_by, called_over, called_in, code_of, settled, IsAtRest, HasReached, IsReached, Advances, IsAnswered}
use Rattle.flux_plan.specs.Flows.{IsAt}
use Rattle.flux_plan.proofs.RunLemmas.{behind, so_far, IsStill, run-answers, run-settled, run-front, comes-then}

-- the events of what comes next; a call has one only with its answer
abbrev pub events_for : (ClassNo → Key) → Next → List Event
events_for key (nexts.Take class mode) = events.Take (key class) mode ∷ []
events_for key (nexts.Enter node) = events.Enter node ∷ []
events_for key (nexts.Choose number) = events.Choose number ∷ []
events_for key (nexts.Call node) = []
events_for key (nexts.Exit node outcome) = events.Exit node outcome ∷ []
events_for key (nexts.Drop class) = events.Drop (key class) ∷ []
events_for key (nexts.End outcome) = events.End outcome ∷ []
events_for key nexts.Ended = []

events_for-act : (key : ClassNo → Key) (act : Act) → events_for key (next_act act) ≡ event_of key act ∷ []
events_for-act key (takes class mode) = refl
events_for-act key (enters node) = refl
events_for-act key (chooses number) = refl
events_for-act key (exits node outcome) = refl
events_for-act key (drops class) = refl
events_for-act key (ends outcome) = refl

-- ---- places that follow each other

module _ (plan : Plan) (key : ClassNo → Key) (matches : Matches) (values : List Value) where
  -- at its beginning a flow has its values
  pub reached-fresh : HasReached plan key matches values [] [] (fresh values)
  reached-fresh = record { steps = 0; reached = refl; rests = tt }

  resting : (position : Position) → IsSome (next_in plan matches position) → IsAtRest plan matches position
  resting (fresh values) some = tt
  resting (at state) some = some

  -- what comes next has been made
  pub reached-advanced : (answers : List Answer) (before : List Event) (old new : Position) (next : Next)
      → HasReached plan key matches values answers before old → next_in plan matches old ≡ Some next → Advances plan matches old new
      → HasReached plan key matches values answers (before ++ events_for key next) new
  reached-advanced answers before old new next has is made =
      let (m, settles) = run-settled plan.segments key matches made.steps made.after [] in
      let own : next_act made.act ≡ next = let h = ap next_by made.made in let k = sym h ∙ is in cc in
      let event : events_for key next ≡ event_of key made.act ∷ [] = ap (events_for key) (sym own) ∙ events_for-act key made.act in
      let there : state_in plan new ≡ settled plan.segments matches made.steps made.after = made.new_ in
      let one : run plan.segments key matches (suc m) (state_in plan old) [] ≡ so_far (event_of key made.act ∷ []) (state_in plan new) [] =
      ap (run_step (run plan.segments key matches m) key (state_in plan old) []) made.made
      ∙ ap (after_event (event_of key made.act)) settles
      ∙ ap (λ (s : State). so_far (event_of key made.act ∷ []) s []) (sym there) in
      let (n, all) = comes-then plan.segments key matches (beginning plan values) answers before (state_in plan old) [] (event_of key made.act ∷ []) (state_in plan new) [] (has.steps, has.reached) (suc m, one) in
      record {
        steps = n;
        reached = all ∙ ap (λ (es : List Event). so_far (before ++ es) (state_in plan new) []) (sym event);
        rests = resting new made.rests;
      }

  -- the step of a call that comes next
  called-step : (position : Position) (node : NodeNo) → called_in plan position ≡ Some node → step plan.segments matches (state_in plan position) ≡ calls node
  called-step position node is = let state = state_in plan position in by state state.frames refl is
    where
      in_code : (frame : Frame) (below : List Frame) (state : State) (exit : ℕ) (o : Option Instr) → called_by frame o ≡ Some node → step_of matches exit frame below state.values state.outcome o ≡ calls node
      in_code frame below state exit None h = absurd cc
      in_code frame below state exit (Some instrs.Call) h = let same : frame.node ≡ node = cc in ap calls same
      in_code frame below state exit (Some other) h = absurd cc

      in_segments : (frame : Frame) (below : List Frame) (state : State) (o : Option Segment) → called_by frame (slice_get (code_of o) frame.place) ≡ Some node → step_in matches frame below state.values state.outcome o ≡ calls node
      in_segments frame below state None h = absurd cc
      in_segments frame below state (Some segment) h = in_code frame below state segment.exit (slice_get segment.code frame.place) h

      by : (state : State) (frames : List Frame) → state.frames ≡ frames → called_over plan.segments state.frames ≡ Some node → step plan.segments matches state ≡ calls node
      by state [] own h = absurd (let k = rw own at h in cc)
      by state (frame ∷ below) own h = let k = rw own at h in rw own (in_segments frame below state (slice_get plan.segments frame.node.0) k)

  values_in : (position : Position) → let state = state_in plan position in state.values ≡ values_at position
  values_in (fresh values) = refl
  values_in (at state) = refl

  -- the call that comes next has been answered
  pub reached-answered : (answers : List Answer) (before : List Event) (old new : Position) (node : NodeNo) (answer : Answer)
      → HasReached plan key matches values answers before old → called_in plan old ≡ Some node → IsAnswered plan old answer new
      → HasReached plan key matches values (answers ++ answer ∷ []) (before ++ events.Call (record { node = node; args = values_at old; answer = answer }) ∷ []) new
  reached-answered answers before old new node answer has is made =
      let state = state_in plan old in
      let call : Event = events.Call (record { node = node; args = state.values; answer = answer }) in
      let there : state_in plan new ≡ answered state answer = ap (state_in plan) made.new_ in
      let one : run plan.segments key matches 1 state (answer ∷ []) ≡ so_far (call ∷ []) (answered state answer) [] =
      ap (run_step (run plan.segments key matches 0) key state (answer ∷ [])) (called-step old node is) in
      let more = run-answers plan.segments key matches has.steps (beginning plan values) answers (answer ∷ []) before state [] has.reached in
      let (n, all) = comes-then plan.segments key matches (beginning plan values) (answers ++ answer ∷ []) before state (answer ∷ []) (call ∷ []) (answered state answer) [] (has.steps, more) (1, one) in
      record {
        steps = n;
        reached = all ∙ ap (λ (s : State). so_far (before ++ call ∷ []) s []) (sym there)
            ∙ ap (λ (vs : List Value). so_far (before ++ events.Call (record { node = node; args = vs; answer = answer }) ∷ []) (state_in plan new) []) (values_in old);
        rests = resting new (made.rests matches);
      }

  -- what is reached is reached by some run
  pub reached-some : (answers : List Answer) (before : List Event) (position : Position) → HasReached plan key matches values answers before position → IsReached plan matches position
  reached-some answers before position has = record { key = key; values = values; answers = answers; events = before; has = has }

-- ---- calls that come next

-- no step but a call's has a call next
calls_alone : (matches : Matches) (exit : ℕ) (frame : Frame) (below : List Frame) (values : List Value) (outcome : Outcome) (instr : Instr) (node : NodeNo)
    → next_by (obeyed matches exit frame below values outcome instr) ≡ Some (nexts.Call node) → called_by frame (Some instr) ≡ Some node
calls_alone matches exit frame below values outcome (instrs.Take class mode) node h = absurd cc
calls_alone matches exit frame below values outcome instrs.Enter node h = absurd cc
calls_alone matches exit frame below values outcome (instrs.Choose arms) node h = by (first_arm (λ patterns. matches patterns values) 1 arms) h
  where
    by : (found : Option (ℕ × Arm)) → next_by (chosen exit frame below values outcome found) ≡ Some (nexts.Call node) → called_by frame (Some (instrs.Choose arms)) ≡ Some node
    by None h = absurd cc
    by (Some (number, arm)) h = absurd cc
calls_alone matches exit frame below values Good (instrs.Go inner) node h = absurd cc
calls_alone matches exit frame below values Over (instrs.Go inner) node h = absurd cc
calls_alone matches exit frame below values (Bad code) (instrs.Go inner) node h = absurd cc
calls_alone matches exit frame below values outcome instrs.Leave node h = absurd cc
calls_alone matches exit frame below values outcome instrs.Call node h = cc
calls_alone matches exit frame below values outcome instrs.Exit node h = absurd cc
calls_alone matches exit frame below values outcome (instrs.Drop class) node h = absurd cc
calls_alone matches exit frame below values Good (instrs.Handle arms) node h = absurd cc
calls_alone matches exit frame below values Over (instrs.Handle arms) node h = absurd cc
calls_alone matches exit frame below values (Bad code) (instrs.Handle arms) node h = by (handler_for arms code) h
  where
    by : (found : Option NodeNo) → next_by (handled frame below values code found) ≡ Some (nexts.Call node) → called_by frame (Some (instrs.Handle arms)) ≡ Some node
    by None h = absurd cc
    by (Some handler) h = absurd cc
calls_alone matches exit frame below values outcome instrs.EndHandle node h = absurd cc
calls_alone matches exit frame [] values outcome instrs.Return node h = absurd cc
calls_alone matches exit frame (f ∷ below) values outcome instrs.Return node h = absurd cc

-- where a call comes next for some matching, it does whatever patterns match
pub next-called : (plan : Plan) (matches : Matches) (position : Position) (node : NodeNo) → next_in plan matches position ≡ Some (nexts.Call node) → called_in plan position ≡ Some node
next-called plan matches position node is = let state = state_in plan position in by state.frames state.values state.outcome is
  where
    in_code : (frame : Frame) (below : List Frame) (values : List Value) (outcome : Outcome) (exit : ℕ) (o : Option Instr) → next_by (step_of matches exit frame below values outcome o) ≡ Some (nexts.Call node) → called_by frame o ≡ Some node
    in_code frame below values outcome exit None h = absurd cc
    in_code frame below values outcome exit (Some instr) h = calls_alone matches exit frame below values outcome instr node h

    in_segments : (frame : Frame) (below : List Frame) (values : List Value) (outcome : Outcome) (o : Option Segment) → next_by (step_in matches frame below values outcome o) ≡ Some (nexts.Call node) → called_by frame (slice_get (code_of o) frame.place) ≡ Some node
    in_segments frame below values outcome None h = absurd cc
    in_segments frame below values outcome (Some segment) h = in_code frame below values outcome segment.exit (slice_get segment.code frame.place) h

    by : (frames : List Frame) (values : List Value) (outcome : Outcome) → next_by (step_over plan.segments matches frames values outcome) ≡ Some (nexts.Call node) → called_over plan.segments frames ≡ Some node
    by [] values outcome h = absurd cc
    by (frame ∷ below) values outcome h = in_segments frame below values outcome (slice_get plan.segments frame.node.0) h

-- ---- places and walks

is_still : (stop : Stop) → IsStill (still stop)
is_still (walks.finished end) = tt
is_still (walks.before_call node args) = tt
is_still walks.nowhere = tt

module _ (plan : Plan) (given : Given) (values : List Value) (answers : List Answer) (walked : Walked) (as_ : RunsAs plan given values answers walked)
    (before : List Event) (position : Position) (has : HasReached plan given.key given.matches values answers before position) where
  -- what is left of the walk is what a run makes from the place on
  rest_of : (k : ℕ) × (behind before (run plan.segments given.key given.matches k (state_in plan position) []) ≡ run_of walked)
  rest_of = run-front plan.segments given.key given.matches has.steps as_.steps (beginning plan values) answers before (with_end walked) (state_in plan position) [] (still walked.stop) has.reached (is_still walked.stop) as_.same

  -- the events so far are the front of the walk
  pub walk-front : (rest : List Event) × (with_end walked ≡ before ++ rest)
  walk-front = let (k, all) = rest_of in let left = run plan.segments given.key given.matches k (state_in plan position) [] in (left.events, sym (ap (λ (r : Ran). r.events) all))

  abbrev Left : Ran → Type 0
  Left ran = behind before ran ≡ run_of walked

  not_on_the_way : (state : State) (left : List Answer) → on_the_way state left ≡ still walked.stop → ⊥
  not_on_the_way state left e = subst IsStill (sym e) (is_still walked.stop)

  by_rest : (own : Step) → step plan.segments given.matches (state_in plan position) ≡ own → (m : ℕ) × Left (run_step (run plan.segments given.key given.matches m) given.key (state_in plan position) [] own)
  by_rest own is = let (k, all) = rest_of in some k all
    where
      some : (k : ℕ) → Left (run plan.segments given.key given.matches k (state_in plan position) []) → (m : ℕ) × Left (run_step (run plan.segments given.key given.matches m) given.key (state_in plan position) [] own)
      some zero all = absurd (not_on_the_way (state_in plan position) [] (ap (λ (r : Ran). r.standing) all))
      some (suc m) all = (m, ap (behind before) (sym (ap (run_step (run plan.segments given.key given.matches m) given.key (state_in plan position) []) is)) ∙ all)

  made : (act : Act) (next : Next) → Some (next_act act) ≡ Some next → events_for given.key next ≡ event_of given.key act ∷ []
  made act next e = let same : next_act act ≡ next = cc in ap (events_for given.key) (sym same) ∙ events_for-act given.key act

  -- the event that comes next at the place is the next one of the walk
  pub walk-next : (next : Next) → next_in plan given.matches position ≡ Some next → IsEvent (Some next)
      → (rest : List Event) × (with_end walked ≡ before ++ (events_for given.key next ++ rest))
  walk-next next is event = by (step plan.segments given.matches (state_in plan position)) refl is
    where
      by : (own : Step) → step plan.segments given.matches (state_in plan position) ≡ own → next_by own ≡ Some next → (rest : List Event) × (with_end walked ≡ before ++ (events_for given.key next ++ rest))
      by (silent s) e h = absurd cc
      by (acts act s) e h =
          let (m, all) = by_rest (acts act s) e in
          let more = run plan.segments given.key given.matches m s [] in
          (more.events, sym (ap (λ (r : Ran). r.events) all) ∙ ap (λ (es : List Event). before ++ (es ++ more.events)) (sym (made act next h)))
      by (calls node) e h = absurd (let same : nexts.Call node ≡ next = cc in subst (λ (n : Next). IsEvent (Some n)) (sym same) event)
      by ended e h = absurd (let same : nexts.Ended ≡ next = cc in subst (λ (n : Next). IsEvent (Some n)) (sym same) event)
      by stuck e h = absurd cc

  -- the call that comes next at the place is where the walk stops
  pub walk-calls : (node : NodeNo) → called_in plan position ≡ Some node
      → (with_end walked ≡ before) × (walked.stop ≡ walks.before_call node (values_at position))
  walk-calls node is =
      let (m, all) = by_rest (calls node) (called-step plan given.key given.matches values position node is) in
      let state = state_in plan position in
      let stop : at_call node state.values ≡ still walked.stop = ap (λ (r : Ran). r.standing) all in
      (sym (ap (λ (r : Ran). r.events) all) ∙ append-nil before, stopped walked.stop stop ∙ ap (walks.before_call node) (values_in plan given.key given.matches values position))
    where
      stopped : (stop : Stop) → let state = state_in plan position in at_call node state.values ≡ still stop → stop ≡ walks.before_call node state.values
      stopped (walks.finished end) e = absurd cc
      stopped (walks.before_call own args) e = cc
      stopped walks.nowhere e = absurd cc

  ended-step : next_in plan given.matches position ≡ Some nexts.Ended → step plan.segments given.matches (state_in plan position) ≡ ended
  ended-step is = by (step plan.segments given.matches (state_in plan position)) is
    where
      act_not : (act : Act) → Some (next_act act) ≡ Some nexts.Ended → ⊥
      act_not (takes class mode) e = cc
      act_not (enters node) e = cc
      act_not (chooses number) e = cc
      act_not (exits node outcome) e = cc
      act_not (drops class) e = cc
      act_not (ends outcome) e = cc

      by : (own : Step) → next_by own ≡ Some nexts.Ended → own ≡ ended
      by (silent s) h = absurd cc
      by (acts act s) h = absurd (act_not act h)
      by (calls node) h = absurd cc
      by ended h = refl
      by stuck h = absurd cc

  -- where nothing comes next the walk is over
  pub walk-ended : next_in plan given.matches position ≡ Some nexts.Ended → (with_end walked ≡ before) × HasEnded walked.stop
  walk-ended is =
      let (m, all) = by_rest ended (ended-step is) in
      let stop : at_end ≡ still walked.stop = ap (λ (r : Ran). r.standing) all in
      (sym (ap (λ (r : Ran). r.events) all) ∙ append-nil before, over walked.stop stop)
    where
      over : (stop : Stop) → at_end ≡ still stop → HasEnded stop
      over (walks.finished end) e = tt
      over (walks.before_call node args) e = cc
      over walks.nowhere e = cc

-- ---- flows of journals

-- a program's plans have that of each source line
pub plan-of_line : (p : Program) (lines : List SourceLine) (plans : List Plan) (number : ℕ) (line : SourceLine) → AreLinePlans p lines plans → slice_get lines number ≡ Some line
    → (plan : Plan) × (slice_get plans number ≡ Some plan) × IsPlanOf p line.target plan
plan-of_line p [] plans number line all is = absurd cc
plan-of_line p (l ∷ lines) [] number line all is = absurd all
plan-of_line p (l ∷ lines) (plan ∷ plans) zero line (own, all) is = let same : l ≡ line = cc in (plan, refl, subst (λ (s : SourceLine). IsPlanOf p s.target plan) same own)
plan-of_line p (l ∷ lines) (plan ∷ plans) (suc number) line (own, all) is = plan-of_line p lines plans number line all is

module _ (setup : Setup) (plan : Plan) (entries : List Entry) (flow : ℕ) (position : Position) (locks : AreLocks setup.program setup.locks) (is_at : IsAt setup plan entries flow position) where
  abbrev given : Given
  given = given_for setup is_at.item is_at.line

  abbrev own : List Event
  own = own_events entries flow

  abbrev answers : List Answer
  answers = own_answers entries flow

  abbrev walked : Walked
  walked = let line = is_at.line in let item = is_at.item in walk given setup.program.nodes line.target.0 item.values answers

  walks_so : flow_walk setup flow answers ≡ walked
  walks_so =
      ap (λ (i : Option Item). item_walk setup i answers) is_at.is_item
      ∙ ap (λ (l : Option SourceLine). target_walk setup is_at.item l answers) is_at.is_line

  runs : let item = is_at.item in RunsAs plan given item.values answers walked
  runs = let item = is_at.item in is_at.is_plan.runs given locks item.values answers

  -- the flow has followed its walk
  pub flow-follows : FollowsWalk setup entries flow
  flow-follows =
      let item = is_at.item in
      let (rest, all) = walk-front plan given item.values answers walked runs own position is_at.has in
      record { rest = rest; prefix = ap with_end walks_so ∙ all }

  -- the event that comes next at its place is its next one
  pub flow-next : (next : Next) → next_in plan given.matches position ≡ Some next → IsEvent (Some next)
      → (rest : List Event) × (flow_events setup flow answers ≡ own ++ (events_for given.key next ++ rest))
  flow-next next is event =
      let item = is_at.item in
      let (rest, all) = walk-next plan given item.values answers walked runs own position is_at.has next is event in
      (rest, ap with_end walks_so ∙ all)

  -- the call that comes next at its place is its next one
  pub flow-calls : (node : NodeNo) → called_in plan position ≡ Some node → CallIsNext setup entries flow node (values_at position)
  flow-calls node is =
      let item = is_at.item in
      let (all, stops) = walk-calls plan given item.values answers walked runs own position is_at.has node is in
      record { all = ap with_end walks_so ∙ all; stops = ap (λ (w : Walked). w.stop) walks_so ∙ stops }

  -- where nothing comes next at its place, it is one whole path
  pub flow-ended : next_in plan given.matches position ≡ Some nexts.Ended → IsWholePath setup entries flow
  flow-ended is =
      let item = is_at.item in
      let (all, over) = walk-ended plan given item.values answers walked runs own position is_at.has is in
      record {
        finished = subst (λ (w : Walked). HasEnded w.stop) (sym walks_so) over;
        all = sym (ap with_end walks_so ∙ all);
      }

  -- its place, where the journal has no more of its own
  pub at-later : (later : List Entry) → own_answers later flow ≡ answers → own_events later flow ≡ own → IsAt setup plan later flow position
  at-later later same_answers same_events =
      let item = is_at.item in
      record {
        item = item;
        is_item = is_at.is_item;
        line = is_at.line;
        is_line = is_at.is_line;
        is_plan = is_at.is_plan;
        has = subst (λ (es : List Event). HasReached plan given.key given.matches item.values (own_answers later flow) es position) (sym same_events)
            (subst (λ (l : List Answer). HasReached plan given.key given.matches item.values l own position) (sym same_answers) is_at.has);
      }

  -- its place after the event that comes next
  pub at-advanced : (later : List Entry) (next : Next) (new : Position) → next_in plan given.matches position ≡ Some next → Advances plan given.matches position new
      → own_answers later flow ≡ answers → own_events later flow ≡ own ++ events_for given.key next → IsAt setup plan later flow new
  at-advanced later next new is made same_answers same_events =
      let item = is_at.item in
      let has = reached-advanced plan given.key given.matches item.values answers own position new next is_at.has is made in
      record {
        item = item;
        is_item = is_at.is_item;
        line = is_at.line;
        is_line = is_at.is_line;
        is_plan = is_at.is_plan;
        has = subst (λ (es : List Event). HasReached plan given.key given.matches item.values (own_answers later flow) es new) (sym same_events)
            (subst (λ (l : List Answer). HasReached plan given.key given.matches item.values l (own ++ events_for given.key next) new) (sym same_answers) has);
      }

  -- its place after the call that comes next
  pub at-answered : (later : List Entry) (node : NodeNo) (answer : Answer) (new : Position) → called_in plan position ≡ Some node → IsAnswered plan position answer new
      → own_answers later flow ≡ answers ++ answer ∷ [] → own_events later flow ≡ own ++ events.Call (record { node = node; args = values_at position; answer = answer }) ∷ [] → IsAt setup plan later flow new
  at-answered later node answer new is made same_answers same_events =
      let item = is_at.item in
      let call : Event = events.Call (record { node = node; args = values_at position; answer = answer }) in
      let has = reached-answered plan given.key given.matches item.values answers own position new node answer is_at.has is made in
      record {
        item = item;
        is_item = is_at.is_item;
        line = is_at.line;
        is_line = is_at.is_line;
        is_plan = is_at.is_plan;
        has = subst (λ (es : List Event). HasReached plan given.key given.matches item.values (own_answers later flow) es new) (sym same_events)
            (subst (λ (l : List Answer). HasReached plan given.key given.matches item.values l (own ++ call ∷ []) new) (sym same_answers) has);
      }
