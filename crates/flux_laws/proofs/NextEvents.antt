-- A flow's next event: it is neither a wait nor a call, and the flow has an item; and where the flow is on its walk
-- after it.
use Rattle.std.proofs.Common.{◌≡◌, ◌<◌, ◌+◌, ℕ, List, [], ◌∷◌, ◌++◌, length, Option, Some, None, refl, sym, ap, ◌∙◌, append_assoc, arith}
use Rattle.std.specs.List.{flat_map, slice_get}
use Rattle.std.proofs.lemmas.List.{append-nil, length-append}
use Rattle.std.proofs.lemmas.Option.{slice_get_within}
use Rattle.std.proofs.lemmas.Grind.{flat_map-append}
use Rattle.flux_values.specs.declared.values.Value.{Value}
use Rattle.flux_values.specs.declared.answers.Answer.{Answer}
use Rattle.flux_values.specs.declared.answers.Mode.{Mode}
use Rattle.flux_model.specs.declared.programs.NodeNo.{NodeNo}
use Rattle.flux_model.specs.declared.programs.SourceLine.{SourceLine}
use Rattle.flow_model.specs.declared.journals.CallMade.{CallMade}
use Rattle.flux_model.specs.declared.items.FlowNo.{FlowNo}
use Rattle.flux_model.specs.declared.items.Item.{Item}
use Rattle.flow_model.specs.declared.journals.Key.{Key}
use Rattle.flow_model.specs.declared.journals.Entry.{Entry}
use Rattle.flow_model.specs.declared.journals.Event.{Event}
use Rattle.flow_model.specs.declared.journals.Event.TheVariants.{Take, Wait, Enter, Choose, Call, Exit, Drop, End}
use Rattle.flow_model.specs.Setup.{Setup, item_of}
use Rattle.flux_model.specs.Locks.{declared, AreLocks}
use Rattle.flow_model.specs.Walk.{Stop, finished, before_call, nowhere, Walked, lost}
use Rattle.flow_model.specs.Flows.{given_for, target_walk, item_walk, flow_walk, ending, with_end}
use Rattle.flow_model.specs.Events.{unless_wait, answer_in, events_by, own_events, own_answers, FollowsWalk, IsNext, CallIsNext}
use Rattle.flux_laws.proofs.Stacks.{runs-rest}
use Rattle.flux_laws.proofs.FlowRuns.{keys_of, at_start}
use Rattle.flux_laws.proofs.OwnEvents.{own_events-append, own_answers-append, by_itself}
use Rattle.flux_laws.proofs.OnWalk.{on_walk-next, on_walk-runs}
use Rattle.flux_laws.proofs.Answering.{answers_in, GoesOn, Uses, uses-nested}

-- ---- one entry more of a flow

-- its own events
pub own_events-more : (entries : List Entry) (flow : ℕ) (event : Event)
    → own_events (entries ++ record { flow = record { 0 = flow }; event = event } ∷ []) flow ≡ own_events entries flow ++ unless_wait event
own_events-more entries flow event =
    own_events-append flow entries (record { flow = record { 0 = flow }; event = event } ∷ [])
    ∙ ap (λ es. own_events entries flow ++ flat_map unless_wait es) (by_itself flow event)
    ∙ ap (λ es. own_events entries flow ++ es) (append-nil (unless_wait event))

-- its own answers
pub own_answers-more : (entries : List Entry) (flow : ℕ) (event : Event)
    → own_answers (entries ++ record { flow = record { 0 = flow }; event = event } ∷ []) flow ≡ own_answers entries flow ++ answer_in event
own_answers-more entries flow event =
    own_answers-append flow entries (record { flow = record { 0 = flow }; event = event } ∷ [])
    ∙ ap (λ es. own_answers entries flow ++ flat_map answer_in es) (by_itself flow event)
    ∙ ap (λ as_. own_answers entries flow ++ as_) (append-nil (answer_in event))

-- ---- answers

-- waits have no answers
pub answers-own : (list : List Event) → answers_in (flat_map unless_wait list) ≡ answers_in list
answers-own [] = refl
answers-own (Take k mode ∷ list) = answers-own list
answers-own (Wait k mode ∷ list) = answers-own list
answers-own (Enter node ∷ list) = answers-own list
answers-own (Choose place ∷ list) = answers-own list
answers-own (Call made ∷ list) = ap (λ as_. made.answer ∷ as_) (answers-own list)
answers-own (Exit node outcome ∷ list) = answers-own list
answers-own (Drop k ∷ list) = answers-own list
answers-own (End outcome ∷ list) = answers-own list

-- a flow's walk uses its answers in order
pub flow-uses : (setup : Setup) (flow : ℕ) (answer : Answer) (more left : List Answer) → Uses answer more left (flow_walk setup flow left) (flow_walk setup flow (left ++ answer ∷ more))
flow-uses setup flow answer more left = by (item_of setup flow)
  where
    none : Uses answer more left lost lost
    none = record { unused = left; used = refl; stopped = (refl, refl) }

    on : (item : Item) (line : Option SourceLine) → Uses answer more left (target_walk setup item line left) (target_walk setup item line (left ++ answer ∷ more))
    on item None = none
    on item (Some line) = uses-nested answer more (given_for setup item line) setup.program.nodes (length setup.program.nodes) line.target.0 item.values left

    by : (item : Option Item) → Uses answer more left (item_walk setup item left) (item_walk setup item (left ++ answer ∷ more))
    by None = none
    by (Some item) = on item (slice_get setup.program.sources item.source.0)

-- ending has no answers
none_in-ending : (stop : Stop) → answers_in (ending stop) ≡ []
none_in-ending (finished ended) = refl
none_in-ending (before_call node args) = refl
none_in-ending nowhere = refl

-- the next event is no call: a walk stops before a call without an answer
pub next-no_call : (setup : Setup) (entries : List Entry) (flow : ℕ) (made : CallMade) → IsNext setup entries flow (Call made) → ⊥
next-no_call setup entries flow made is =
    let left : List Answer = own_answers entries flow in
    let walked : Walked = flow_walk setup flow left in
    let uses = flow-uses setup flow made.answer [] left in
    let in_walk : answers_in walked.events ≡ left ++ made.answer ∷ answers_in is.rest =
    sym (append-nil (answers_in walked.events)) ∙ ap (λ as_. answers_in walked.events ++ as_) (sym (none_in-ending walked.stop))
    ∙ sym (flat_map-append answer_in walked.events (ending walked.stop)) ∙ ap answers_in is.next
    ∙ flat_map-append answer_in (own_events entries flow) (Call made ∷ is.rest)
    ∙ ap (λ as_. as_ ++ made.answer ∷ answers_in is.rest) (answers-own (events_by flow entries)) in
    let used : length left ≡ length (answers_in walked.events) + length uses.unused = ap length uses.used ∙ length-append (answers_in walked.events) uses.unused in
    let many : length (answers_in walked.events) ≡ length left + length (made.answer ∷ answers_in is.rest) =
    ap length in_walk ∙ length-append left (made.answer ∷ answers_in is.rest) in
    omega (arith, used, many)

-- an event that is neither a wait nor a call
pub record IsPlain (event : Event) : Type 0 where
  pub own : unless_wait event ≡ event ∷ []
  pub quiet : answer_in event ≡ []

-- the next event is such a one
pub next-plain : (setup : Setup) → AreLocks setup.program setup.locks → (entries : List Entry) (flow : ℕ) (event : Event) → IsNext setup entries flow event → IsPlain event
next-plain setup are entries flow (Wait key mode) is =
    let runs = on_walk-runs setup are flow (own_events entries flow ++ Wait key mode ∷ []) (on_walk-next setup entries flow (Wait key mode) is) in
    let last = runs-rest (keys_of setup flow) (declared setup.program) at_start (own_events entries flow) (Wait key mode ∷ []) runs in
    absurd last.1
next-plain setup are entries flow (Call made) is = absurd (next-no_call setup entries flow made is)
next-plain setup are entries flow (Take key mode) is = record { own = refl; quiet = refl }
next-plain setup are entries flow (Enter node) is = record { own = refl; quiet = refl }
next-plain setup are entries flow (Choose place) is = record { own = refl; quiet = refl }
next-plain setup are entries flow (Exit node outcome) is = record { own = refl; quiet = refl }
next-plain setup are entries flow (Drop key) is = record { own = refl; quiet = refl }
next-plain setup are entries flow (End outcome) is = record { own = refl; quiet = refl }

-- ---- items

-- only an item's flow has events
walk-item : (setup : Setup) (flow : ℕ) (answers : List Answer) → (flow_walk setup flow answers ≡ lost → ⊥) → flow < length setup.items
walk-item setup flow answers some = by (item_of setup flow) refl some
  where
    by : (item : Option Item) → item_of setup flow ≡ item → (item_walk setup item answers ≡ lost → ⊥) → flow < length setup.items
    by None at none = absurd (none refl)
    by (Some item) at none = slice_get_within setup.items flow item at

-- a flow with a next event has an item
pub next-item : (setup : Setup) (entries : List Entry) (flow : ℕ) (event : Event) → IsNext setup entries flow event → flow < length setup.items
next-item setup entries flow event is = walk-item setup flow (own_answers entries flow) (λ none. some (own_events entries flow) (sym (ap with_end none) ∙ is.next))
  where
    some : (list : List Event) → [] ≡ list ++ event ∷ is.rest → ⊥
    some [] e = cc
    some (x ∷ list) e = cc

-- so has one that is at a call
pub call-item : (setup : Setup) (entries : List Entry) (flow : ℕ) (node : NodeNo) (args : List Value) → CallIsNext setup entries flow node args → flow < length setup.items
call-item setup entries flow node args is = walk-item setup flow (own_answers entries flow) (λ none. unlike (sym (ap (λ (walked : Walked). walked.stop) none) ∙ is.stops))
  where
    unlike : nowhere ≡ before_call node args → ⊥
    unlike e = cc

-- ---- after the next event

-- a flow that made its next event follows its walk
pub follows-next : (setup : Setup) → AreLocks setup.program setup.locks → (entries : List Entry) (flow : FlowNo) (event : Event) → IsNext setup entries flow.0 event
    → FollowsWalk setup (entries ++ record { flow = flow; event = event } ∷ []) flow.0
follows-next setup are entries flow event is =
    let p = next-plain setup are entries flow.0 event is in
    let events_are : own_events (entries ++ record { flow = flow; event = event } ∷ []) flow.0 ≡ own_events entries flow.0 ++ event ∷ [] =
    own_events-more entries flow.0 event ∙ ap (λ es. own_events entries flow.0 ++ es) p.own in
    let answers_are : own_answers (entries ++ record { flow = flow; event = event } ∷ []) flow.0 ≡ own_answers entries flow.0 =
    own_answers-more entries flow.0 event ∙ ap (λ as_. own_answers entries flow.0 ++ as_) p.quiet ∙ append-nil (own_answers entries flow.0) in
    record { rest = is.rest; prefix = rw (events_are, answers_are) (is.next ∙ sym (append_assoc (own_events entries flow.0) (event ∷ []) is.rest)) }

-- after a wait a flow is still on its walk
pub follows-wait : (setup : Setup) (entries : List Entry) (flow : FlowNo) (key : Key) (mode : Mode) → FollowsWalk setup entries flow.0
    → FollowsWalk setup (entries ++ record { flow = flow; event = Wait key mode } ∷ []) flow.0
follows-wait setup entries flow key mode follows =
    let events_are : own_events (entries ++ record { flow = flow; event = Wait key mode } ∷ []) flow.0 ≡ own_events entries flow.0 =
    own_events-more entries flow.0 (Wait key mode) ∙ append-nil (own_events entries flow.0) in
    let answers_are : own_answers (entries ++ record { flow = flow; event = Wait key mode } ∷ []) flow.0 ≡ own_answers entries flow.0 =
    own_answers-more entries flow.0 (Wait key mode) ∙ append-nil (own_answers entries flow.0) in
    record { rest = follows.rest; prefix = rw (events_are, answers_are) follows.prefix }

-- so does a call that is next, with any answer
pub follows-call : (setup : Setup) (entries : List Entry) (flow : FlowNo) (made : CallMade) → CallIsNext setup entries flow.0 made.node made.args
    → FollowsWalk setup (entries ++ record { flow = flow; event = Call made } ∷ []) flow.0
follows-call setup entries flow made is =
    let left : List Answer = own_answers entries flow.0 in
    let walked : Walked = flow_walk setup flow.0 left in
    let longer : Walked = flow_walk setup flow.0 (left ++ made.answer ∷ []) in
    let uses = flow-uses setup flow.0 made.answer [] left in
    let stops : walked.stop ≡ before_call made.node made.args = is.stops in
    let on : (uses.unused ≡ []) × GoesOn walked.events (Call made) longer.events = rw stops at uses.stopped in
    let goes = on.1 in
    let so_far : walked.events ≡ own_events entries flow.0 = sym (append-nil walked.events) ∙ ap (λ stop. walked.events ++ ending stop) (sym stops) ∙ is.all in
    let events_are : own_events (entries ++ record { flow = flow; event = Call made } ∷ []) flow.0 ≡ own_events entries flow.0 ++ Call made ∷ [] = own_events-more entries flow.0 (Call made) in
    let answers_are : own_answers (entries ++ record { flow = flow; event = Call made } ∷ []) flow.0 ≡ left ++ made.answer ∷ [] = own_answers-more entries flow.0 (Call made) in
    record {
      rest = goes.rest ++ ending longer.stop;
      prefix = rw (events_are, answers_are)
          (ap (λ es. es ++ ending longer.stop) (goes.whole ∙ ap (λ es. es ++ Call made ∷ goes.rest) so_far)
          ∙ append_assoc (own_events entries flow.0) (Call made ∷ goes.rest) (ending longer.stop)
          ∙ sym (append_assoc (own_events entries flow.0) (Call made ∷ []) (goes.rest ++ ending longer.stop)));
    }
