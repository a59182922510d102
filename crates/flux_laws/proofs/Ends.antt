-- Live flows have a next event, and a journal without live flows is whole.
use Rattle.std.proofs.Common.{◌≡◌, ◌<◌, ◌⊎◌, inl, inr, ℕ, List, [], ◌∷◌, ◌++◌, length, refl, sym, ap, subst, ◌∙◌, arith}
use Rattle.std.specs.List.{Contains}
use Rattle.std.proofs.lemmas.List.{append-nil}
use Rattle.flux_values.specs.declared.answers.Answer.{Answer}
use Rattle.flux_model.specs.declared.programs.ClassNo.{ClassNo}
use Rattle.flux_model.specs.declared.programs.Hold.{Hold}
use Rattle.flow_model.specs.declared.journals.Key.{Key}
use Rattle.flux_model.specs.Locks.{declared}
use Rattle.flow_model.specs.declared.journals.Entry.{Entry}
use Rattle.flow_model.specs.declared.journals.Event.{Event}
use Rattle.flow_model.specs.declared.journals.Event.TheVariants.{Take, Wait, Enter, Choose, Call, Exit, Drop, End}
use Rattle.flow_model.specs.declared.journals.Outcome.{Outcome}
use Rattle.flow_model.specs.Setup.{Setup}
use Rattle.flux_model.specs.Numbered.{IsNumbered}
use Rattle.flux_model.specs.Ordering.{HasCycle}
use Rattle.flow_model.specs.Walk.{Ended, Stop, finished, before_call, nowhere, Walked}
use Rattle.flow_model.specs.Flows.{given_for, flow_walk, ending, flow_events, HasEnded}
use Rattle.flow_model.specs.Events.{events_by, own_events, own_answers, FollowsWalk, IsLive, IsWholePath}
use Rattle.flow_model.specs.Legal.{IsLegal}
use Rattle.flux_laws.specs.Going.{HasNext, HaveSources, LiveFlowsHaveNext, NoneLiveIsWhole}
use Rattle.flux_laws.proofs.Members.{In, in-right, in-from_contains, contains-from_in, all-get, get-within}
use Rattle.flux_laws.proofs.Stacks.{Runs, run, runs-rest}
use Rattle.flux_laws.proofs.Walking.{Leaves}
use Rattle.flux_laws.proofs.FlowRuns.{keys_of, at_start, flow-run}
use Rattle.flux_laws.proofs.OwnEvents.{in-from_own}
use Rattle.flux_laws.proofs.Living.{emptied}
use Rattle.flux_laws.proofs.Trails.{trail-start}
use Rattle.flux_laws.proofs.Reaching.{IsPlace, Leads, sure-nested}

-- a flow's walk reaches a place
flow-place : (setup : Setup) → IsNumbered setup.program → (HasCycle setup.program.nodes → ⊥) → HaveSources setup.program setup.items
    → (flow : ℕ) → flow < length setup.items → (answers : List Answer) → let walked = flow_walk setup flow answers in IsPlace walked.stop
flow-place setup numbered acyclic sources flow lt answers =
    let (item, item_is) = get-within setup.items flow lt in
    let (line, line_is) = get-within setup.program.sources item.source.0 (all-get (λ i. i.source.0 < length setup.program.sources) setup.items flow item sources item_is) in
    let ends = all-get (λ l. (l.node.0 < length setup.program.nodes) × (l.target.0 < length setup.program.nodes)) setup.program.sources item.source.0 line numbered.sources line_is in
    let there = sure-nested (given_for setup item line) setup.program.nodes numbered.nodes acyclic (length setup.program.nodes) line.target.0 [] ends.1
    (trail-start (Leads setup.program.nodes) (length setup.program.nodes) line.target.0 ends.1) (omega arith) item.values answers in
    rw (item_is, line_is) there

module _ (setup : Setup) (entries : List Entry) (flow : ℕ) (follows : FollowsWalk setup entries flow) where
  -- what comes next by the rest of the walk, or where it stopped
  next-by : IsLive setup entries flow → (let walked = flow_walk setup flow (own_answers entries flow) in IsPlace walked.stop) → HasNext setup entries flow
  next-by live place = by follows.rest follows.prefix
    where
      in-ending : (ended : Ended) → (let walked = flow_walk setup flow (own_answers entries flow) in walked.stop ≡ finished ended)
          → In (End ended.outcome) (flow_events setup flow (own_answers entries flow))
      in-ending ended is = let walked : Walked = flow_walk setup flow (own_answers entries flow) in
          subst (λ (stop : Stop). In (End ended.outcome) (walked.events ++ ending stop)) (sym is) (in-right walked.events (End ended.outcome ∷ []) (End ended.outcome) (inl refl))

      stopped : flow_events setup flow (own_answers entries flow) ≡ own_events entries flow → (stop : Stop)
          → (let walked = flow_walk setup flow (own_answers entries flow) in walked.stop ≡ stop) → IsPlace stop → HasNext setup entries flow
      stopped all (finished ended) is place = absurd (live.goes_on ended.outcome (contains-from_in (events_by flow entries) (End ended.outcome)
          (in-from_own (End ended.outcome) (events_by flow entries) (subst (In (End ended.outcome)) all (in-ending ended is)))))
      stopped all (before_call node args) is place = inr (node, args, record { all = all; stops = is })
      stopped all nowhere is place = absurd place

      by : (rest : List Event) → flow_events setup flow (own_answers entries flow) ≡ own_events entries flow ++ rest → HasNext setup entries flow
      by [] prefix = let walked : Walked = flow_walk setup flow (own_answers entries flow) in stopped (prefix ∙ append-nil (own_events entries flow)) walked.stop refl place
      by (event ∷ rest) prefix = inl (event, record { rest = rest; next = prefix })

pub live_flows_have_next : LiveFlowsHaveNext
live_flows_have_next setup entries numbered acyclic sources legal flow live =
    next-by setup entries flow (legal.walks flow live.item) live (flow-place setup numbered acyclic sources flow live.item (own_answers entries flow))

-- ---- flows that have ended

-- an `end` is among events or not
pub end_or_not : (list : List Event) → ((outcome : Outcome) × In (End outcome) list) ⊎ ((outcome : Outcome) → In (End outcome) list → ⊥)
end_or_not [] = inr (λ outcome is. is)
end_or_not (event ∷ list) = by event (end_or_not list)
  where
    further : (e : Event) → ((outcome : Outcome) → e ≡ End outcome → ⊥) → ((outcome : Outcome) × In (End outcome) list) ⊎ ((outcome : Outcome) → In (End outcome) list → ⊥)
        → ((outcome : Outcome) × In (End outcome) (e ∷ list)) ⊎ ((outcome : Outcome) → In (End outcome) (e ∷ list) → ⊥)
    further e unlike (inl (outcome, is)) = inl (outcome, inr is)
    further e unlike (inr not) = inr (λ outcome. neither outcome)
      where
        neither : (outcome : Outcome) → In (End outcome) (e ∷ list) → ⊥
        neither outcome (inl same) = unlike outcome same
        neither outcome (inr is) = not outcome is

    by : (e : Event) → ((outcome : Outcome) × In (End outcome) list) ⊎ ((outcome : Outcome) → In (End outcome) list → ⊥)
        → ((outcome : Outcome) × In (End outcome) (e ∷ list)) ⊎ ((outcome : Outcome) → In (End outcome) (e ∷ list) → ⊥)
    by (End outcome) more = inl (outcome, inl refl)
    by (Take key mode) more = further (Take key mode) (λ o e. cc) more
    by (Wait key mode) more = further (Wait key mode) (λ o e. cc) more
    by (Enter node) more = further (Enter node) (λ o e. cc) more
    by (Choose place) more = further (Choose place) (λ o e. cc) more
    by (Call made) more = further (Call made) (λ o e. cc) more
    by (Exit node outcome) more = further (Exit node outcome) (λ o e. cc) more
    by (Drop key) more = further (Drop key) (λ o e. cc) more

-- nothing runs on an empty stack
pub nothing-left : (key : ClassNo → Key) (declares : ℕ → List Hold) (rest : List Event) → Runs key declares [] rest → rest ≡ []
nothing-left key declares [] runs = refl
nothing-left key declares (event ∷ rest) runs = absurd runs.0

-- where the stack is empty after a walk with its end, the walk is finished
finished-at : (list : List Event) (stop : Stop) → Leaves at_start (run at_start list) stop → run at_start (list ++ ending stop) ≡ [] → HasEnded stop
finished-at list (finished ended) leaves empty = tt
finished-at list (before_call node args) leaves empty = let e = sym (ap (run at_start) (append-nil list)) ∙ empty in rw e at leaves
finished-at list nowhere leaves empty = let e = sym (ap (run at_start) (append-nil list)) ∙ empty in rw e at leaves

module _ (setup : Setup) (entries : List Entry) (legal : IsLegal setup entries) (flow : ℕ) (item : flow < length setup.items) where
  -- a flow that has its end is a whole path
  pub whole-ended : (outcome : Outcome) → Contains (events_by flow entries) (End outcome) → IsWholePath setup entries flow
  whole-ended outcome ended =
      let left : List Answer = own_answers entries flow in
      let walked : Walked = flow_walk setup flow left in
      let follows : FollowsWalk setup entries flow = legal.walks flow item in
      let empty = emptied setup entries legal flow item outcome ended in
      let walk = flow-run setup legal.locks flow left in
      let runs = runs-rest (keys_of setup flow) (declared setup.program) at_start (own_events entries flow) follows.rest (let r = walk.runs in let e = follows.prefix in rw e at r) in
      let none : follows.rest ≡ [] = nothing-left (keys_of setup flow) (declared setup.program) follows.rest (rw empty at runs) in
      let all : flow_events setup flow left ≡ own_events entries flow = follows.prefix ∙ ap (λ es. own_events entries flow ++ es) none ∙ append-nil (own_events entries flow) in
      record { finished = finished-at walked.events walked.stop walk.leaves (ap (run at_start) all ∙ empty); all = sym all }

pub none_live_is_whole : NoneLiveIsWhole
none_live_is_whole setup entries legal none flow item = by (end_or_not (events_by flow entries))
  where
    by : ((outcome : Outcome) × In (End outcome) (events_by flow entries)) ⊎ ((outcome : Outcome) → In (End outcome) (events_by flow entries) → ⊥) → IsWholePath setup entries flow
    by (inl (outcome, is)) = whole-ended setup entries legal flow item outcome (contains-from_in (events_by flow entries) (End outcome) is)
    by (inr not) = absurd (none flow (record { item = item; goes_on = λ outcome there. not outcome (in-from_contains (events_by flow entries) (End outcome) there) }))
