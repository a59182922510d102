-- How many events a flow has, and a journal gains.
use Rattle.std.proofs.Common.{◌≡◌, ◌<◌, ◌≤◌, inl, inr, ℕ, Bool, true, false, cond, eqb, List, [], ◌∷◌, ◌++◌, length, Option, Some, None, refl, sym, ap, ◌∙◌, arith}
use Rattle.std.specs.List.{slice_get, flat_map, list_any, AllByRecursion}
use Rattle.std.proofs.lemmas.List.{length-append}
use Rattle.flux_values.specs.declared.answers.Mode.{Mode}
use Rattle.flux_model.specs.declared.programs.SourceLine.{SourceLine}
use Rattle.flow_model.specs.declared.journals.Key.{Key}
use Rattle.flow_model.specs.declared.journals.Entry.{Entry}
use Rattle.flow_model.specs.declared.journals.Event.{Event}
use Rattle.flow_model.specs.declared.journals.Event.TheVariants.{Take, Wait, Enter, Choose, Call, Exit, Drop, End}
use Rattle.flux_model.specs.declared.items.Item.{Item}
use Rattle.flow_model.specs.declared.journals.Outcome.{Outcome}
use Rattle.flow_model.specs.Setup.{Setup, item_of}
use Rattle.flux_model.specs.Locks.{declared}
use Rattle.flow_model.specs.Walk.{Stop, finished, before_call, nowhere, Walked}
use Rattle.flow_model.specs.Flows.{given_for, target_walk, item_walk, ending, with_end}
use Rattle.flow_model.specs.Events.{unless_wait, events_by, own_events, own_answers, FollowsWalk}
use Rattle.flow_model.specs.Legal.{IsLegal}
use Rattle.flux_laws.specs.Growth.{line_size, item_size, flow_size, is_end, has_ended, room_of, IsNoWait, NodesAreBounded, WalksAreBounded, OwnEventsAreBounded, GrowthIsBounded}
use Rattle.flux_laws.proofs.FlowSums.{sum-le, count-by, count-all}
use Rattle.flux_laws.proofs.Members.{all-behind, In}
use Rattle.flux_laws.proofs.Stacks.{Runs, runs-front, runs-rest}
use Rattle.flux_laws.proofs.FlowRuns.{keys_of, at_start}
use Rattle.flux_laws.proofs.OwnEvents.{own_events-append}
use Rattle.flux_laws.proofs.OnWalk.{on_walk-follows, on_walk-runs}
use Rattle.flux_laws.proofs.Living.{ended-empty, in-own}
use Rattle.flux_laws.proofs.Ends.{nothing-left}
use Rattle.flux_laws.proofs.Bounds.{count-nested}

ending-one : (stop : Stop) → length (ending stop) ≤ 1
ending-one (finished ended) = omega arith
ending-one (before_call node args) = omega arith
ending-one nowhere = omega arith

pub nodes_are_bounded : NodesAreBounded
nodes_are_bounded given nodes number values left = count-nested given nodes (length nodes) number values left

pub walks_are_bounded : WalksAreBounded
walks_are_bounded setup flow answers = by (item_of setup flow)
  where
    on : (item : Item) (line : Option SourceLine) → length (with_end (target_walk setup item line answers)) ≤ line_size setup line
    on item None = omega arith
    on item (Some line) =
        let walked : Walked = target_walk setup item (Some line) answers in
        let most = count-nested (given_for setup item line) setup.program.nodes (length setup.program.nodes) line.target.0 item.values answers in
        let one = ending-one walked.stop in
        let both = length-append walked.events (ending walked.stop) in
        omega (arith, most, one, both)

    by : (item : Option Item) → length (with_end (item_walk setup item answers)) ≤ item_size setup item
    by None = omega arith
    by (Some item) = on item (slice_get setup.program.sources item.source.0)

pub own_events_are_bounded : OwnEventsAreBounded
own_events_are_bounded setup entries flow follows =
    let all = walks_are_bounded setup flow (own_answers entries flow) in
    let split = ap length follows.prefix ∙ length-append (own_events entries flow) follows.rest in
    omega (arith, all, split)

-- ---- entries without waits

own-event : (event : Event) → ((key : Key) (mode : Mode) → event ≡ Wait key mode → ⊥) → unless_wait event ≡ event ∷ []
own-event (Take key mode) no_wait = refl
own-event (Wait key mode) no_wait = absurd (no_wait key mode refl)
own-event (Enter node) no_wait = refl
own-event (Choose place) no_wait = refl
own-event (Call made) no_wait = refl
own-event (Exit node outcome) no_wait = refl
own-event (Drop key) no_wait = refl
own-event (End outcome) no_wait = refl

own-all : (flow : ℕ) (entries : List Entry) → AllByRecursion IsNoWait entries → own_events entries flow ≡ events_by flow entries
own-all flow [] all = refl
own-all flow (entry ∷ entries) (no_wait, all) = by (eqb entry.flow.0 flow) (own-all flow entries all)
  where
    by : (b : Bool) → flat_map unless_wait (events_by flow entries) ≡ events_by flow entries
        → flat_map unless_wait (cond b (entry.event ∷ events_by flow entries) (events_by flow entries)) ≡ cond b (entry.event ∷ events_by flow entries) (events_by flow entries)
    by true more = ap (λ es. es ++ flat_map unless_wait (events_by flow entries)) (own-event entry.event no_wait) ∙ ap (λ es. entry.event ∷ es) more
    by false more = more

-- ---- flows that have ended

-- an end is there
pub ended-in : (list : List Event) → list_any is_end list ≡ true → (outcome : Outcome) × In (End outcome) list
ended-in [] any = absurd cc
ended-in (End outcome ∷ list) any = (outcome, inl refl)
ended-in (Take key mode ∷ list) any = let more = ended-in list any in (more.0, inr more.1)
ended-in (Wait key mode ∷ list) any = let more = ended-in list any in (more.0, inr more.1)
ended-in (Enter node ∷ list) any = let more = ended-in list any in (more.0, inr more.1)
ended-in (Choose place ∷ list) any = let more = ended-in list any in (more.0, inr more.1)
ended-in (Call made ∷ list) any = let more = ended-in list any in (more.0, inr more.1)
ended-in (Exit node outcome ∷ list) any = let more = ended-in list any in (more.0, inr more.1)
ended-in (Drop key ∷ list) any = let more = ended-in list any in (more.0, inr more.1)

module _ (setup : Setup) (entries more : List Entry) (legal : IsLegal setup (entries ++ more)) (no_waits : AllByRecursion IsNoWait more) where
  module _ (flow : ℕ) (item : flow < length setup.items) where
    follows : FollowsWalk setup (entries ++ more) flow
    follows = legal.walks flow item

    -- a flow that has ended makes no more events
    none-more : (outcome : Outcome) → In (End outcome) (events_by flow entries) → own_events more flow ≡ []
    none-more outcome is =
        let runs = on_walk-runs setup legal.locks flow (own_events (entries ++ more) flow) (on_walk-follows setup (entries ++ more) flow follows) in
        let both : Runs (keys_of setup flow) (declared setup.program) at_start (own_events entries flow ++ own_events more flow) = rw (own_events-append flow entries more) at runs in
        let first = runs-front (keys_of setup flow) (declared setup.program) at_start (own_events entries flow) (own_events more flow) both in
        let empty = ended-empty (keys_of setup flow) (declared setup.program) at_start (own_events entries flow) outcome first (in-own outcome (events_by flow entries) is) in
        let rest = runs-rest (keys_of setup flow) (declared setup.program) at_start (own_events entries flow) (own_events more flow) both in
        nothing-left (keys_of setup flow) (declared setup.program) (own_events more flow) (rw empty at rest)

    own-growth : length (events_by flow more) ≤ room_of setup entries flow
    own-growth = by (has_ended entries flow) refl
      where
        by : (b : Bool) → has_ended entries flow ≡ b → length (events_by flow more) ≤ cond b 0 (flow_size setup flow)
        by true ended =
            let (outcome, is) = ended-in (events_by flow entries) ended in
            let none : events_by flow more ≡ [] = sym (own-all flow more no_waits) ∙ none-more outcome is in
            rw none (omega arith)
        by false live =
            let all = own_events_are_bounded setup (entries ++ more) flow follows in
            let split = ap length (own_events-append flow entries more) ∙ length-append (own_events entries flow) (own_events more flow) in
            let same = ap length (own-all flow more no_waits) in
            omega (arith, all, split, same)

pub growth_is_bounded : GrowthIsBounded
growth_is_bounded setup entries more legal no_waits =
    let all = count-all (length setup.items) more (all-behind (λ entry. entry.flow.0 < length setup.items) entries more legal.flows) in
    let le = sum-le (count-by more) (room_of setup entries) (length setup.items) (λ flow lt. own-growth setup entries more legal no_waits flow lt) in
    omega (arith, all, le)
