-- Which flows have ended, and how many have not.
use Rattle.std.proofs.Common.{◌≡◌, ◌⊎◌, inl, inr, ℕ, zero, suc, ◌+◌, ◌<◌, ◌≤◌, ◌≢◌, Bool, true, false, ◌||◌, cond, List, [], ◌∷◌, ◌++◌, length, refl, sym, ap, subst, ◌∙◌, arith}
use Rattle.std.specs.List.{list_any}
use Rattle.std.proofs.lemmas.Bool.{cases_eq}
use Rattle.std.proofs.lemmas.List.{append-nil, append_cancel_left}
use Rattle.std.proofs.lemmas.List.Folds.{list_any-append}
use Rattle.flux_values.specs.declared.values.Value.{Value}
use Rattle.flux_model.specs.declared.programs.NodeNo.{NodeNo}
use Rattle.flux_model.specs.declared.items.FlowNo.{FlowNo}
use Rattle.flow_model.specs.declared.journals.Outcome.{Outcome}
use Rattle.flow_model.specs.declared.journals.Entry.{Entry}
use Rattle.flow_model.specs.declared.journals.Event.{Event}
use Rattle.flow_model.specs.declared.journals.Event.TheVariants.{End}
use Rattle.flow_model.specs.Setup.{Setup}
use Rattle.flow_model.specs.Walk.{Stop, finished, before_call, nowhere, Walked}
use Rattle.flow_model.specs.Flows.{flow_walk, ending, HasEnded}
use Rattle.flow_model.specs.Events.{events_by, own_events, own_answers, IsNext, CallIsNext, IsWholePath}
use Rattle.flow_model.specs.Legal.{IsLegal}
use Rattle.flux_laws.specs.Growth.{is_end, has_ended, sum_below}
use Rattle.flux_laws.proofs.Members.{In, contains-from_in, in-right}
use Rattle.flux_laws.proofs.FlowSums.{sum-same, sum-one}
use Rattle.flux_laws.proofs.Growing.{ended-in}
use Rattle.flux_laws.proofs.OwnEvents.{in-from_own}
use Rattle.flux_laws.proofs.Ends.{whole-ended}
use Rattle.flow_state.proofs.Entries.{events-own, events-other}

in-ended : (list : List Event) (outcome : Outcome) → In (End outcome) list → list_any is_end list ≡ true
in-ended [] outcome is = absurd is
in-ended (event ∷ list) outcome (inl same) = ap (λ (e : Event). is_end e || list_any is_end list) same
in-ended (event ∷ list) outcome (inr is) = by (is_end event) (in-ended list outcome is)
  where
    by : (b : Bool) → list_any is_end list ≡ true → (b || list_any is_end list) ≡ true
    by true e = refl
    by false e = e

module _ (setup : Setup) (entries : List Entry) where
  -- a whole path has its end
  pub whole-has_ended : (flow : ℕ) → IsWholePath setup entries flow → has_ended entries flow ≡ true
  whole-has_ended flow whole = let walked : Walked = flow_walk setup flow (own_answers entries flow) in by walked.stop
      refl whole.finished
    where
      by : (stop : Stop) → (let walked = flow_walk setup flow (own_answers entries flow) in walked.stop ≡ stop)
          → HasEnded stop → has_ended entries flow ≡ true
      by (finished ended) is h =
          let walked : Walked = flow_walk setup flow (own_answers entries flow) in
          let there : In (End ended.outcome) (walked.events ++ ending walked.stop) =
          subst (λ (s : Stop). In (End ended.outcome) (walked.events ++ ending s)) (sym is)
          (in-right walked.events (End ended.outcome ∷ []) (End ended.outcome) (inl refl)) in
          in-ended (events_by flow entries) ended.outcome
          (in-from_own (End ended.outcome) (events_by flow entries)
          (subst (λ (es : List Event). In (End ended.outcome) es) (sym whole.all) there))
      by (before_call node args) is h = absurd h
      by nowhere is h = absurd h

  module _ (legal : IsLegal setup entries) (flow : ℕ) (within : flow < length setup.items) where
    -- a flow that has its end is a whole path
    pub has_ended-whole : has_ended entries flow ≡ true → IsWholePath setup entries flow
    has_ended-whole ended =
        let (outcome, is) = ended-in (events_by flow entries) ended in
        whole-ended setup entries legal flow within outcome (contains-from_in (events_by flow entries) (End outcome) is)

    -- a flow with a next event has not ended
    pub next-goes_on : (event : Event) → IsNext setup entries flow event → has_ended entries flow ≡ true → ⊥
    next-goes_on event next ended =
        let whole = has_ended-whole ended in
        let same : own_events entries flow ++ event ∷ next.rest ≡ own_events entries flow ++ [] =
        sym next.next ∙ sym whole.all ∙ sym (append-nil (own_events entries flow)) in
        let none : event ∷ next.rest ≡ [] = append_cancel_left (own_events entries flow) (event ∷ next.rest) [] same in
        cc

    pub call-goes_on : (node : NodeNo) (args : List Value) → CallIsNext setup entries flow node args
        → has_ended entries flow ≡ true → ⊥
    call-goes_on node args call ended =
        let whole = has_ended-whole ended in
        subst HasEnded call.stops whole.finished

pub not-true : (b : Bool) → (b ≡ true → ⊥) → b ≡ false
not-true true never = absurd (never refl)
not-true false never = refl

-- ---- one entry more

ended-last : (list : List Event) (event : Event) → list_any is_end (list ++ event ∷ [])
    ≡ (list_any is_end list || is_end event)
ended-last list event = list_any-append is_end list (event ∷ []) ∙ ap (λ (b : Bool). list_any is_end list || b)
    (or-false (is_end event))
  where
    or-false : (b : Bool) → (b || false) ≡ b
    or-false true = refl
    or-false false = refl

pub ended-other : (entries : List Entry) (flow : FlowNo) (event : Event) (other : ℕ) → (flow.0 ≡ other → ⊥)
    → has_ended (entries ++ record { flow = flow; event = event } ∷ []) other ≡ has_ended entries other
ended-other entries flow event other apart = ap (list_any is_end) (events-other entries flow event other apart)

pub ended-own : (entries : List Entry) (flow : FlowNo) (event : Event)
    → has_ended (entries ++ record { flow = flow; event = event } ∷ []) flow.0
    ≡ (has_ended entries flow.0 || is_end event)
ended-own entries flow event = ap (list_any is_end) (events-own entries flow.0 event) ∙ ended-last
    (events_by flow.0 entries) event

-- ---- how many have not ended

abbrev pub one_live : List Entry → ℕ → ℕ
one_live entries flow = cond (has_ended entries flow) 0 1

abbrev pub live_in : List Entry → ℕ → ℕ
live_in entries count = sum_below (one_live entries) count

module _ (entries : List Entry) (flow : FlowNo) (event : Event) (count : ℕ) where
  -- after an event that is no end as many are live
  pub live-still : is_end event ≡ false → live_in (entries ++ record { flow = flow; event = event } ∷ []) count
      ≡ live_in entries count
  live-still no_end = sum-same (one_live entries) (one_live (entries ++ record { flow = flow; event = event } ∷ []))
      count (λ other lt. ap (λ (b : Bool). cond b 0 1) (by other (cases_eq flow.0 other)))
    where
      or-false : (b : Bool) → (b || false) ≡ b
      or-false true = refl
      or-false false = refl

      by : (other : ℕ) → (flow.0 ≡ other) ⊎ (flow.0 ≡ other → ⊥)
          → has_ended (entries ++ record { flow = flow; event = event } ∷ []) other ≡ has_ended entries other
      by other (inr apart) = ended-other entries flow event other apart
      by other (inl same) = subst (λ (f : ℕ). has_ended (entries ++ record { flow = flow; event = event } ∷ []) f
          ≡ has_ended entries f) same
          (ended-own entries flow event ∙ ap (λ (b : Bool). has_ended entries flow.0 || b) no_end ∙ or-false
          (has_ended entries flow.0))

  -- after an end of a flow that goes on one less is live
  pub live-less : is_end event ≡ true → flow.0 < count → has_ended entries flow.0 ≡ false
      → live_in entries count ≡ live_in (entries ++ record { flow = flow; event = event } ∷ []) count + 1
  live-less is lt goes_on =
      sum-one (one_live (entries ++ record { flow = flow; event = event } ∷ [])) (one_live entries) flow.0 count lt
      (ap (λ (b : Bool). cond b 0 1) goes_on ∙ sym (ap (λ (b : Bool). cond b 0 1 + 1)
      (ended-own entries flow event ∙ ap (λ (b : Bool). has_ended entries flow.0 || b) is ∙ or-true
      (has_ended entries flow.0))))
      (λ other apart. ap (λ (b : Bool). cond b 0 1) (sym (ended-other entries flow event other apart)))
    where
      or-true : (b : Bool) → (b || true) ≡ true
      or-true true = refl
      or-true false = refl

-- at the start all are live
pub live-all : (count : ℕ) → live_in [] count ≡ count
live-all zero = refl
live-all (suc count) = let more = live-all count in omega (arith, more)

-- where a flow goes on, some are live
pub live-some : (entries : List Entry) (flow count : ℕ) → flow < count → has_ended entries flow ≡ false
    → 1 ≤ live_in entries count
live-some entries flow count lt goes_on =
    let one : one_live entries flow ≡ 1 = ap (λ (b : Bool). cond b 0 1) goes_on in
    by count lt one
  where
    by : (n : ℕ) → flow < n → one_live entries flow ≡ 1 → 1 ≤ live_in entries n
    by zero lt one = absurd (omega (arith, lt))
    by (suc n) lt one = here (cases_eq flow n) (λ less. by n less one)
      where
        here : (flow ≡ n) ⊎ (flow ≡ n → ⊥) → (flow < n → 1 ≤ live_in entries n)
            → 1 ≤ live_in entries n + one_live entries n
        here (inl same) more = let e : one_live entries n ≡ 1 =
            subst (λ (f : ℕ). one_live entries f ≡ 1) same one in omega (arith, e)
        here (inr apart) more = let ne : flow ≢ n = apart in let some =
            more (omega (arith, lt, ne)) in omega (arith, some)

-- where none is live, each has ended
pub none-all : (entries : List Entry) (flow count : ℕ) → flow < count → live_in entries count ≡ 0
    → has_ended entries flow ≡ true
none-all entries flow count lt none = by (has_ended entries flow) refl
  where
    by : (b : Bool) → has_ended entries flow ≡ b → b ≡ true
    by true e = refl
    by false e = let some = live-some entries flow count lt e in absurd (omega (arith, some, none))
