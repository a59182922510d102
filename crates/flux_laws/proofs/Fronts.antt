-- A front of a legal journal is legal.
use Rattle.std.proofs.Common.{◌≡◌, ◌<◌, ◌+◌, ◌⊎◌, inl, inr, ℕ, List, [], ◌∷◌, ◌++◌, length, refl, sym, ap, ◌∙◌, append_assoc, arith}
use Rattle.std.proofs.lemmas.List.{append-nil, append_cancel_left, length-append}
use Rattle.std.proofs.lemmas.Grind.{flat_map-append}
use Rattle.flux_values.specs.declared.values.Value.{Value}
use Rattle.flux_values.specs.declared.answers.Answer.{Answer}
use Rattle.flux_model.specs.declared.programs.NodeNo.{NodeNo}
use Rattle.flow_model.specs.declared.journals.CallMade.{CallMade}
use Rattle.flow_model.specs.declared.journals.Entry.{Entry}
use Rattle.flow_model.specs.declared.journals.Event.{Event}
use Rattle.flow_model.specs.declared.journals.Event.TheVariants.{Call}
use Rattle.flow_model.specs.Setup.{Setup}
use Rattle.flow_model.specs.Walk.{Stop, finished, before_call, nowhere, Walked}
use Rattle.flow_model.specs.Flows.{flow_walk, ending, with_end, flow_events}
use Rattle.flow_model.specs.Events.{answer_in, events_by, own_events, own_answers, FollowsWalk}
use Rattle.flux_laws.specs.Moves.{FrontsAreLegal}
use Rattle.flux_laws.proofs.Members.{all-front, IsBehind, IsFurther, fronts}
use Rattle.flux_laws.proofs.OwnEvents.{own_events-append, own_answers-append}
use Rattle.flux_laws.proofs.Answering.{answers_in, call_with, GoesOn, Uses, Stopped}
use Rattle.flux_laws.proofs.NextEvents.{answers-own, flow-uses}
use Rattle.flux_laws.proofs.Apart.{stands-front, takes_exclude-front}
use Rattle.flux_laws.proofs.Standing.{waits_right-front}
use Rattle.flux_laws.proofs.Parts.{parts_make_legal}

-- a front of events with a call more than its answers is none
pub no_call-further : (list first : List Event) (answers : List Answer) (made : CallMade) (rest : List Event) → answers_in list ≡ answers
    → answers ≡ answers_in first → list ≡ first ++ Call made ∷ rest → ⊥
no_call-further list first answers made rest own used split =
    let all : answers_in list ≡ answers_in first ++ made.answer ∷ answers_in rest = ap answers_in split ∙ flat_map-append answer_in first (Call made ∷ rest) in
    let count : length (answers_in first) ≡ length (answers_in first) + length (made.answer ∷ answers_in rest) =
    ap length (sym used ∙ sym own ∙ all) ∙ length-append (answers_in first) (made.answer ∷ answers_in rest) in
    omega (arith, count)

-- events that begin a walk on their own answers and more begin that on their own
module _ (answer : Answer) (more left : List Answer) (walked longer : Walked) (uses : Uses answer more left walked longer)
    (list rest : List Event) (own : answers_in list ≡ left) (on : with_end longer ≡ list ++ rest) where
  HasFront : Stop → Type 0
  HasFront stop = (after : List Event) × (walked.events ++ ending stop ≡ list ++ after)

  front-before_call : (node : NodeNo) (args : List Value) → uses.unused ≡ [] → GoesOn walked.events (call_with node args answer) longer.events → HasFront (before_call node args)
  unfolding HasFront
  front-before_call node args none goes = by (fronts walked.events (call_with node args answer ∷ (goes.rest ++ ending longer.stop)) list rest joined)
    where
      joined : walked.events ++ call_with node args answer ∷ (goes.rest ++ ending longer.stop) ≡ list ++ rest
      joined = sym (append_assoc walked.events (call_with node args answer ∷ goes.rest) (ending longer.stop)) ∙ ap (λ es. es ++ ending longer.stop) (sym goes.whole) ∙ on

      used : left ≡ answers_in walked.events
      used = uses.used ∙ ap (λ as_. answers_in walked.events ++ as_) none ∙ append-nil (answers_in walked.events)

      behind : (further : List Event) → list ≡ walked.events ++ further → (after : List Event) × (walked.events ++ [] ≡ list ++ after)
      behind [] is = ([], ap (λ es. es ++ []) (sym (is ∙ append-nil walked.events)))
      behind (event ∷ further) is =
          let same : call_with node args answer ∷ (goes.rest ++ ending longer.stop) ≡ event ∷ (further ++ rest) =
          append_cancel_left walked.events (call_with node args answer ∷ (goes.rest ++ ending longer.stop)) (event ∷ (further ++ rest))
          (joined ∙ ap (λ es. es ++ rest) is ∙ append_assoc walked.events (event ∷ further) rest) in
          let call : event ≡ call_with node args answer = cc same in
          absurd (no_call-further list walked.events left (record { node = node; args = args; answer = answer }) further own used (is ∙ ap (λ x. walked.events ++ x ∷ further) call))

      by : IsBehind walked.events list ⊎ IsFurther list walked.events → (after : List Event) × (walked.events ++ [] ≡ list ++ after)
      by (inl b) = behind b.rest b.is
      by (inr f) = (f.next ∷ f.rest, append-nil walked.events ∙ f.is)

  front-at : (stop : Stop) → Stopped answer more uses.unused walked longer stop → HasFront stop
  unfolding HasFront
  front-at (finished ended) (same_left, same_events, same_stop) = (rest, sym (λ i. same_events i ++ ending (same_stop i)) ∙ on)
  front-at (before_call node args) (none, goes) = front-before_call node args none goes
  front-at nowhere (same_events, same_stop) = (rest, sym (λ i. same_events i ++ ending (same_stop i)) ∙ on)

  -- events that are followed on more answers are followed on their own
  front-with : (after : List Event) × (with_end walked ≡ list ++ after)
  unfolding HasFront
  front-with = front-at walked.stop uses.stopped

-- a flow that follows its walk did so before
follows-front : (setup : Setup) (entries more : List Entry) (flow : ℕ) → FollowsWalk setup (entries ++ more) flow → FollowsWalk setup entries flow
follows-front setup entries more flow follows = by (own_answers more flow) refl
  where
    own : answers_in (own_events entries flow) ≡ own_answers entries flow
    own = answers-own (events_by flow entries)

    events_are : own_events (entries ++ more) flow ++ follows.rest ≡ own_events entries flow ++ (own_events more flow ++ follows.rest)
    events_are = ap (λ es. es ++ follows.rest) (own_events-append flow entries more) ∙ append_assoc (own_events entries flow) (own_events more flow) follows.rest

    by : (others : List Answer) → own_answers more flow ≡ others → FollowsWalk setup entries flow
    by [] none =
        let answers_are : own_answers (entries ++ more) flow ≡ own_answers entries flow =
        own_answers-append flow entries more ∙ ap (λ as_. own_answers entries flow ++ as_) none ∙ append-nil (own_answers entries flow) in
        record { rest = own_events more flow ++ follows.rest; prefix = ap (flow_events setup flow) (sym answers_are) ∙ follows.prefix ∙ events_are }
    by (answer ∷ others) some =
        let answers_are : own_answers (entries ++ more) flow ≡ own_answers entries flow ++ answer ∷ others =
        own_answers-append flow entries more ∙ ap (λ as_. own_answers entries flow ++ as_) some in
        let (after, is) = front-with answer others (own_answers entries flow) (flow_walk setup flow (own_answers entries flow)) (flow_walk setup flow (own_answers entries flow ++ answer ∷ others))
        (flow-uses setup flow answer others (own_answers entries flow)) (own_events entries flow) (own_events more flow ++ follows.rest) own
        (ap (flow_events setup flow) (sym answers_are) ∙ follows.prefix ∙ events_are) in
        record { rest = after; prefix = is }

pub fronts_are_legal : FrontsAreLegal
fronts_are_legal setup entries more legal = parts_make_legal setup entries (record {
  locks = legal.locks;
  flows = all-front (λ entry. entry.flow.0 < length setup.items) entries more legal.flows;
  walks = λ flow lt. follows-front setup entries more flow (legal.walks flow lt);
  answers = λ before after flow made stands. legal.answers before (after ++ more) flow made (stands-front entries more before after flow (Call made) stands);
  takes = takes_exclude-front entries more (let ex = legal.excludes in ex.takes);
  waits = waits_right-front setup entries more legal.waits;
})
