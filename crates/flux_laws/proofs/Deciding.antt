-- Whether a flow is live, and whether it is blocked, is decided; so there is a lowest flow that can go on.
use Rattle.std.proofs.Common.{◌≡◌, ◌≢◌, ◌<◌, ◌≤◌, ◌⊎◌, inl, inr, ℕ, zero, suc, Bool, true, false, List, [], ◌∷◌, ◌++◌, length, refl, sym, ap, subst, ◌∙◌, arith}
use Rattle.std.proofs.lemmas.Bool.{cases_eq, cases_lt}
use Rattle.std.proofs.lemmas.List.{append_cancel_left}
use Rattle.flux_values.specs.declared.answers.Mode.{Mode}
use Rattle.flow_model.specs.declared.journals.Entry.{Entry}
use Rattle.flow_model.specs.declared.journals.Event.{Event}
use Rattle.flow_model.specs.declared.journals.Event.TheVariants.{Take, Wait, Enter, Choose, Call, Exit, Drop, End}
use Rattle.flow_model.specs.declared.journals.Key.{Key}
use Rattle.flow_model.specs.declared.journals.Outcome.{Outcome}
use Rattle.flow_model.specs.Setup.{Setup}
use Rattle.flux_model.specs.Modes.{conflict}
use Rattle.flow_model.specs.Events.{events_by, own_events, own_answers, IsNext, IsLive}
use Rattle.flow_model.specs.Flows.{flow_events}
use Rattle.flow_model.specs.Exclusion.{modes_held, holds_against}
use Rattle.flow_model.specs.Waits.{StandsAt, StandsBefore, Blocks}
use Rattle.flow_model.specs.Legal.{IsLegal}
use Rattle.flux_laws.specs.Going.{IsBlocked, CanGoOn, IsLowest, SomeFlowCanGoOn}
use Rattle.flux_laws.proofs.Members.{In, in-from_contains, contains-from_in}
use Rattle.flux_laws.proofs.Standing.{next-unique}
use Rattle.flux_laws.proofs.Lasting.{StandsSomewhere, last-unique, stands_or_not}
use Rattle.flux_laws.proofs.NextEvents.{next-item}
use Rattle.flux_laws.proofs.Added.{holds_or_not}
use Rattle.flux_laws.proofs.Living.{blocker-live, not_all_blocked}
use Rattle.flux_laws.proofs.Ends.{end_or_not}

-- decided, one way or the other
abbrev OrNot : Type 0 → Type 0
OrNot P = P ⊎ (P → ⊥)

-- ---- blocks

module _ (entries : List Entry) (other flow : ℕ) (key : Key) (mode : Mode) where
  -- the other waits there in conflict, and this flow doesn't, or after it
  stands_before_or_not : OrNot (StandsBefore entries other flow key mode)
  stands_before_or_not = by (stands_or_not entries other key)
    where
      unique : (own their : Mode) (place behind : ℕ) → StandsAt entries other key own place → StandsAt entries other key their behind → (own ≡ their) × (place ≡ behind)
      unique own their place behind one two =
          let same = last-unique entries (record { 0 = other }) (Wait key own) (Wait key their) place behind one two in
          (cc same.0, same.1)

      placed : (their : Mode) (place : ℕ) → StandsAt entries other key their place → conflict their mode ≡ true → OrNot (StandsSomewhere entries flow key) → OrNot (StandsBefore entries other flow key mode)
      placed their place stands against (inr nowhere) =
          inl (record { their = their; place = place; stands = stands; against = against; first = λ own behind there. absurd (nowhere (own, behind, there)) })
      placed their place stands against (inl (own, behind, there)) = by_place (cases_lt place behind)
        where
          by_place : (place < behind) ⊎ (behind ≤ place) → OrNot (StandsBefore entries other flow key mode)
          by_place (inl lt) = inl (record {
            their = their;
            place = place;
            stands = stands;
            against = against;
            first = λ mine at stands_at.
                let same = last-unique entries (record { 0 = flow }) (Wait key own) (Wait key mine) behind at there stands_at in
                let e = same.1 in
                omega (arith, lt, e);
          })
          by_place (inr le) = inr (λ before.
              let lt = before.first own behind there in
              let same = unique before.their their before.place place before.stands stands in
              let e = same.1 in
              omega (arith, lt, le, e))

      told : (their : Mode) (place : ℕ) → StandsAt entries other key their place → (b : Bool) → conflict their mode ≡ b → OrNot (StandsBefore entries other flow key mode)
      told their place stands true against = placed their place stands against (stands_or_not entries flow key)
      told their place stands false apart = inr (λ before. unlike (ap (λ m. conflict m mode) (sym (let u = unique before.their their before.place place before.stands stands in u.0)) ∙ before.against))
        where
          unlike : conflict their mode ≡ true → ⊥
          unlike against = cc (apart, against)

      by : OrNot (StandsSomewhere entries other key) → OrNot (StandsBefore entries other flow key mode)
      by (inl (their, place, stands)) = told their place stands (conflict their mode) refl
      by (inr nowhere) = inr (λ before. nowhere (before.their, before.place, before.stands))

  -- a flow blocks another or not
  blocks_or_not : OrNot (Blocks entries other flow key mode)
  blocks_or_not = by (cases_eq other flow) (holds_or_not (modes_held entries flow key))
    where
      caused : (other ≡ flow → ⊥) → modes_held entries flow key ≡ [] → (b : Bool) → holds_against entries other key mode ≡ b → OrNot (Blocks entries other flow key mode)
      caused apart none true against = inl (record { free = λ holds. holds none; apart = apart; cause = inl against })
      caused apart none false free = by_line stands_before_or_not
        where
          neither : (StandsBefore entries other flow key mode → ⊥) → (holds_against entries other key mode ≡ true) ⊎ StandsBefore entries other flow key mode → ⊥
          neither nowhere (inl against) = cc (against, free)
          neither nowhere (inr before) = nowhere before

          by_line : OrNot (StandsBefore entries other flow key mode) → OrNot (Blocks entries other flow key mode)
          by_line (inl before) = inl (record { free = λ holds. holds none; apart = apart; cause = inr before })
          by_line (inr nowhere) = inr (λ blocks. neither nowhere blocks.cause)

      by : (other ≡ flow) ⊎ (other ≡ flow → ⊥) → (modes_held entries flow key ≡ []) ⊎ ((modes_held entries flow key ≡ [] → ⊥) × ((own : Mode) × In own (modes_held entries flow key))) → OrNot (Blocks entries other flow key mode)
      by (inl same) holds = inr (λ blocks. blocks.apart same)
      by (inr apart) (inl none) = caused apart none (holds_against entries other key mode) refl
      by (inr apart) (inr (some, held)) = inr (λ blocks. blocks.free some)

-- some flow below a count blocks
some_blocks : (entries : List Entry) (flow : ℕ) (key : Key) (mode : Mode) (count : ℕ) → OrNot ((other : ℕ) × (other < count) × Blocks entries other flow key mode)
some_blocks entries flow key mode zero = inr (λ there. let lt = there.1 in omega (arith, lt))
some_blocks entries flow key mode (suc count) = by (some_blocks entries flow key mode count) (blocks_or_not entries count flow key mode)
  where
    by : OrNot ((other : ℕ) × (other < count) × Blocks entries other flow key mode) → OrNot (Blocks entries count flow key mode) → OrNot ((other : ℕ) × (other < suc count) × Blocks entries other flow key mode)
    by (inl (other, lt, blocks)) last = inl (other, omega (arith, lt), blocks)
    by (inr none) (inl blocks) = inl (count, omega arith, blocks)
    by (inr none) (inr free) = inr (λ there. neither there.0 there.1 there.2 (cases_eq there.0 count))
      where
        neither : (other : ℕ) → other < suc count → Blocks entries other flow key mode → (other ≡ count) ⊎ (other ≡ count → ⊥) → ⊥
        neither other lt blocks (inl same) = free (subst (λ (o : ℕ). Blocks entries o flow key mode) same blocks)
        neither other lt blocks (inr apart) = let ne : other ≢ count = apart in none (other, omega (arith, lt, ne), blocks)

-- ---- flows

module _ (setup : Setup) (entries : List Entry) (legal : IsLegal setup entries) where
  -- only a take is blocked
  unblocked-by : (flow : ℕ) (event : Event) → IsNext setup entries flow event → ((key : Key) (mode : Mode) → event ≡ Take key mode → ⊥) → OrNot (IsBlocked setup entries flow)
  unblocked-by flow event next no_take = inr (λ blocked. let waits = blocked.1 in no_take waits.key waits.mode (next-unique setup entries flow event (Take waits.key waits.mode) next waits.next))

  blocked-by : (flow : ℕ) (event : Event) → IsNext setup entries flow event → OrNot (IsBlocked setup entries flow)
  blocked-by flow (Take key mode) next = by (some_blocks entries flow key mode (length setup.items))
    where
      none-waits : ((other : ℕ) × (other < length setup.items) × Blocks entries other flow key mode → ⊥) → IsBlocked setup entries flow → ⊥
      none-waits none (other, waits) =
          let live = blocker-live setup entries legal flow other waits in
          let same : Take waits.key waits.mode ≡ Take key mode = next-unique setup entries flow (Take waits.key waits.mode) (Take key mode) waits.next next in
          let key_is : waits.key ≡ key = cc same in
          let mode_is : waits.mode ≡ mode = cc same in
          none (other, live.item, rw (key_is, mode_is) at waits.blocked)

      by : OrNot ((other : ℕ) × (other < length setup.items) × Blocks entries other flow key mode) → OrNot (IsBlocked setup entries flow)
      by (inl (other, lt, blocks)) = inl (other, record { key = key; mode = mode; next = next; blocked = blocks })
      by (inr none) = inr (none-waits none)
  blocked-by flow (Wait key mode) next = unblocked-by flow (Wait key mode) next (λ k m e. cc)
  blocked-by flow (Enter node) next = unblocked-by flow (Enter node) next (λ k m e. cc)
  blocked-by flow (Choose place) next = unblocked-by flow (Choose place) next (λ k m e. cc)
  blocked-by flow (Call made) next = unblocked-by flow (Call made) next (λ k m e. cc)
  blocked-by flow (Exit node outcome) next = unblocked-by flow (Exit node outcome) next (λ k m e. cc)
  blocked-by flow (Drop key) next = unblocked-by flow (Drop key) next (λ k m e. cc)
  blocked-by flow (End outcome) next = unblocked-by flow (End outcome) next (λ k m e. cc)

  blocked_or_not : (flow : ℕ) → OrNot (IsBlocked setup entries flow)
  blocked_or_not flow = by (cases_lt flow (length setup.items))
    where
      on : (rest : List Event) → flow_events setup flow (own_answers entries flow) ≡ own_events entries flow ++ rest → OrNot (IsBlocked setup entries flow)
      on [] prefix = inr (λ blocked. let waits = blocked.1 in let next = waits.next in
          nothing next.rest (append_cancel_left (own_events entries flow) [] (Take waits.key waits.mode ∷ next.rest) (sym prefix ∙ next.next)))
        where
          nothing : {key : Key} {mode : Mode} (rest : List Event) → [] ≡ Take key mode ∷ rest → ⊥
          nothing rest e = cc
      on (event ∷ rest) prefix = blocked-by flow event (record { rest = rest; next = prefix })

      by : (flow < length setup.items) ⊎ (length setup.items ≤ flow) → OrNot (IsBlocked setup entries flow)
      by (inl lt) = let follows = legal.walks flow lt in on follows.rest follows.prefix
      by (inr le) = inr (λ blocked. let waits = blocked.1 in let lt = next-item setup entries flow (Take waits.key waits.mode) waits.next in omega (arith, lt, le))

  live_or_not : (flow : ℕ) → OrNot (IsLive setup entries flow)
  live_or_not flow = by (cases_lt flow (length setup.items)) (end_or_not (events_by flow entries))
    where
      by : (flow < length setup.items) ⊎ (length setup.items ≤ flow) → ((outcome : Outcome) × In (End outcome) (events_by flow entries)) ⊎ ((outcome : Outcome) → In (End outcome) (events_by flow entries) → ⊥)
          → OrNot (IsLive setup entries flow)
      by (inr le) end = inr (λ live. let lt = live.item in omega (arith, lt, le))
      by (inl lt) (inl (outcome, is)) = inr (λ live. live.goes_on outcome (contains-from_in (events_by flow entries) (End outcome) is))
      by (inl lt) (inr not) = inl (record { item = lt; goes_on = λ outcome there. not outcome (in-from_contains (events_by flow entries) (End outcome) there) })

  can_or_not : (flow : ℕ) → OrNot (CanGoOn setup entries flow)
  can_or_not flow = by (live_or_not flow) (blocked_or_not flow)
    where
      by : OrNot (IsLive setup entries flow) → OrNot (IsBlocked setup entries flow) → OrNot (CanGoOn setup entries flow)
      by (inr ended) blocked = inr (λ can. ended can.live)
      by (inl live) (inl blocked) = inr (λ can. can.free blocked)
      by (inl live) (inr free) = inl (record { live = live; free = free })

  -- the lowest flow that can go on, or none below a count
  lowest-below : (count : ℕ) → ((lowest : ℕ) × CanGoOn setup entries lowest × ((flow : ℕ) → flow < lowest → CanGoOn setup entries flow → ⊥)) ⊎ ((flow : ℕ) → flow < count → CanGoOn setup entries flow → ⊥)
  lowest-below zero = inr (λ flow lt can. omega (arith, lt))
  lowest-below (suc count) = by (lowest-below count) (can_or_not count)
    where
      by : ((lowest : ℕ) × CanGoOn setup entries lowest × ((flow : ℕ) → flow < lowest → CanGoOn setup entries flow → ⊥)) ⊎ ((flow : ℕ) → flow < count → CanGoOn setup entries flow → ⊥) → OrNot (CanGoOn setup entries count)
          → ((lowest : ℕ) × CanGoOn setup entries lowest × ((flow : ℕ) → flow < lowest → CanGoOn setup entries flow → ⊥)) ⊎ ((flow : ℕ) → flow < suc count → CanGoOn setup entries flow → ⊥)
      by (inl found) last = inl found
      by (inr none) (inl can) = inl (count, can, none)
      by (inr none) (inr not) = inr (λ flow lt can. neither flow lt can (cases_eq flow count))
        where
          neither : (flow : ℕ) → flow < suc count → CanGoOn setup entries flow → (flow ≡ count) ⊎ (flow ≡ count → ⊥) → ⊥
          neither flow lt can (inl same) = not (subst (CanGoOn setup entries) same can)
          neither flow lt can (inr apart) = let ne : flow ≢ count = apart in none flow (omega (arith, lt, ne)) can

pub some_flow_can_go_on : SomeFlowCanGoOn
some_flow_can_go_on setup entries legal flow live = by (lowest-below setup entries legal (length setup.items))
  where
    blocked : ((other : ℕ) → other < length setup.items → CanGoOn setup entries other → ⊥) → (other : ℕ) → IsLive setup entries other → IsBlocked setup entries other
    blocked none other there = told (blocked_or_not setup entries legal other)
      where
        told : OrNot (IsBlocked setup entries other) → IsBlocked setup entries other
        told (inl is) = is
        told (inr free) = absurd (none other there.item (record { live = there; free = free }))

    by : ((lowest : ℕ) × CanGoOn setup entries lowest × ((other : ℕ) → other < lowest → CanGoOn setup entries other → ⊥)) ⊎ ((other : ℕ) → other < length setup.items → CanGoOn setup entries other → ⊥)
        → (lowest : ℕ) × IsLowest setup entries lowest
    by (inr none) = absurd (not_all_blocked setup entries legal (blocked none) flow live)
    by (inl (lowest, can, below)) = (lowest, record { can = can; least = λ other there. le other there (cases_lt other lowest) })
      where
        le : (other : ℕ) → CanGoOn setup entries other → (other < lowest) ⊎ (lowest ≤ other) → lowest ≤ other
        le other there (inl lt) = absurd (below other lt there)
        le other there (inr is) = is
