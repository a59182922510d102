-- Candidates that learn of one entry more cover all flows again.
use Rattle.std.proofs.Common.{◌≡◌, ◌≢◌, ◌-◌, ◌⊎◌, inl, inr, ℕ, suc, List, [], ◌∷◌, ◌++◌, length, Some, refl, sym, ap, subst, ◌∙◌, arith}
use Rattle.std.specs.List.{slice_get}
use Rattle.flux_values.specs.declared.answers.Mode.{Mode}
use Rattle.flux_values.specs.declared.answers.Mode.TheVariants.{Reader, Writer}
use Rattle.flux_model.specs.declared.items.FlowNo.{FlowNo}
use Rattle.flow_model.specs.declared.journals.Key.{Key}
use Rattle.flow_model.specs.declared.journals.Entry.{Entry}
use Rattle.flow_model.specs.declared.journals.Event.{Event}
use Rattle.flow_model.specs.declared.journals.Event.TheVariants.{Take, Wait, Drop}
use Rattle.flow_model.specs.Setup.{Setup}
use Rattle.flow_model.specs.Events.{IsLive}
use Rattle.flow_model.specs.Waits.{StandsAt}
use Rattle.flow_model.specs.Legal.{IsLegal}
use Rattle.flux_table.specs.declared.locks.Waiter.{Waiter}
use Rattle.flow_state.specs.Lines.{IsLineAt}
use Rattle.flow_orders.specs.Turns.{IsInLine}
use Rattle.flow_waits.specs.steps.Staying.{IsFresh}
use Rattle.flow_waits.specs.steps.Covers.{Pools, IsReady, IsParked, IsCovered, Covers, Lags, Wakes, WakesLine}
use Rattle.flow_waits.proofs.Blocked.{waited-in-line}
use Rattle.flow_waits.proofs.Choosing.{without_standing}
use Rattle.flow_waits.proofs.Waking.{IsOwed, carried, parked-fresh}
use Rattle.flow_waits.proofs.Woken.{AreFresh, woken-kept, woken-covered, woken-fresh, woken-apart, woken-exist, woken-owed, line-covered, line-fresh, line-apart, line-exist, line-owed}

-- the last of a list
pub last-is : {X : Type 0} (xs : List X) (x : X) → slice_get (xs ++ x ∷ []) (length (xs ++ x ∷ []) - 1) ≡ Some x
last-is [] x = refl
last-is {X} (y ∷ xs) x = by (xs ++ x ∷ []) (last-is xs x)
  where
    by : (more : List X) → slice_get more (length more - 1) ≡ Some x
        → slice_get (y ∷ more) (length (y ∷ more) - 1) ≡ Some x
    by [] is = absurd cc
    by (z ∷ more) is =
        let e : suc (length (z ∷ more) - 1) ≡ length (y ∷ z ∷ more) - 1 = omega arith in
        subst (λ (n : ℕ). slice_get (y ∷ z ∷ more) n ≡ Some x) e is

-- the last entry, and its event
pub last-own : (before : List Entry) (flow : FlowNo) (event : Event) (entries journal : List Entry) (entry : Entry)
    → entries ≡ before ++ record { flow = flow; event = event } ∷ []
    → journal ≡ entries → Some entry ≡ slice_get journal (length journal - 1)
    → entry ≡ record { flow = flow; event = event }
last-own before flow event entries journal entry added same last =
    let whole : journal ≡ before ++ record { flow = flow; event = event } ∷ [] = same ∙ added in
    let one : Some entry ≡ Some (record { flow = flow; event = event }) =
    (rw whole at last) ∙ last-is before (record { flow = flow; event = event }) in
    cc one

pub last-event : (before : List Entry) (flow : FlowNo) (event : Event) (entries journal : List Entry) (entry : Entry)
    → entries ≡ before ++ record { flow = flow; event = event } ∷ []
    → journal ≡ entries → Some entry ≡ slice_get journal (length journal - 1) → event ≡ entry.event
last-event before flow event entries journal entry added same last =
    ap (λ (e : Entry). e.event) (sym (last-own before flow event entries journal entry added same last))

module _ (setup : Setup) (entries : List Entry) (legal : IsLegal setup entries) (pools : Pools) (from : ℕ)
    (lags : Lags setup entries pools from) where
  covers : Covers setup lags.before pools lags.was
  covers = lags.covers

  split : IsLegal setup (lags.before ++ record { flow = lags.flow; event = lags.event } ∷ [])
  split = subst (IsLegal setup) lags.added legal

  owed_or : (flow : ℕ) → IsLive setup entries flow → IsCovered setup entries pools from flow ⊎ IsOwed entries lags.event
      pools flow
  owed_or flow live = subst (λ es. IsCovered setup es pools from flow ⊎ IsOwed es lags.event pools flow)
      (sym lags.added)
      (carried setup lags.before lags.flow lags.event split pools lags.was from covers lags.ready lags.later flow
      (subst (λ es. IsLive setup es flow) lags.added live))

  are-fresh : AreFresh setup entries pools
  are-fresh key mode flow parked = subst (λ es. IsFresh setup es flow key mode) (sym lags.added)
      (parked-fresh setup lags.before lags.flow lags.event split pools lags.was from covers lags.ready lags.later key
      mode flow parked)

  -- the flow of a wait is in a line then, and is blocked
  pub waiting : (key : Key) (mode : Mode) → lags.event ≡ Wait key mode → IsInLine setup entries lags.flow.0
  waiting key mode waits = subst (λ es. IsInLine setup es lags.flow.0)
      (ap (λ event. lags.before ++ record { flow = lags.flow; event = event } ∷ []) (sym waits) ∙ sym lags.added)
      (waited-in-line setup lags.before lags.flow key mode
      (subst (λ event. IsLegal setup (lags.before ++ record { flow = lags.flow; event = event } ∷ [])) waits split))

  -- an event that neither takes nor drops a key
  pub told-other : ((key : Key) (mode : Mode) → lags.event ≡ Take key mode → ⊥)
      → ((key : Key) → lags.event ≡ Drop key → ⊥) → Covers setup entries pools from
  told-other no_take no_drop = record {
    each = λ flow live. by flow (owed_or flow live);
    fresh = are-fresh;
    apart = covers.apart;
    exist = covers.exist;
  }
    where
      by : (flow : ℕ) → IsCovered setup entries pools from flow ⊎ IsOwed entries lags.event pools flow
          → IsCovered setup entries pools from flow
      by flow (inl is) = is
      by flow (inr owed) = absurd (none owed.cause)
        where
          none : ((lags.event ≡ Drop owed.key) × (place : ℕ) × StandsAt entries flow owed.key owed.mode place)
              ⊎ (((lags.event ≡ Drop owed.key) ⊎ (lags.event ≡ Take owed.key owed.mode)) × IsParked pools owed.key
              owed.mode flow) → ⊥
          none (inl (drops, place, stands)) = no_drop owed.key drops
          none (inr (inl drops, parked)) = no_drop owed.key drops
          none (inr (inr takes, parked)) = no_take owed.key owed.mode takes

  -- a wait, whose flow is no longer looked at
  pub told-wait : (new : Pools) (key : Key) (mode : Mode) → lags.event ≡ Wait key mode
      → ((other : ℕ) → lags.flow.0 ≢ other → IsReady pools other → IsReady new other)
      → ((other : ℕ) → IsReady new other → IsReady pools other)
      → new.readers ≡ pools.readers → new.writers ≡ pools.writers → Covers setup entries new from
  told-wait new key mode waits kept there readers writers =
      without_standing setup entries pools new from lags.flow.0
      (told-other (λ k m takes. no_take (sym waits ∙ takes)) (λ k drops. no_drop (sym waits ∙ drops)))
      kept there readers writers (waiting key mode waits)
    where
      no_take : {k : Key} {m : Mode} → Wait key mode ≡ Take k m → ⊥
      no_take e = cc

      no_drop : {k : Key} → Wait key mode ≡ Drop k → ⊥
      no_drop e = cc

  -- a take
  pub told-take : (new : Pools) (key : Key) (mode : Mode) → lags.event ≡ Take key mode → Wakes pools new key mode from
      → Covers setup entries new from
  told-take new key mode takes wakes = record {
    each = λ flow live. by flow (owed_or flow live);
    fresh = woken-fresh setup entries pools new key mode from wakes are-fresh;
    apart = woken-apart setup entries pools new key mode from wakes are-fresh covers.apart;
    exist = woken-exist setup entries pools new key mode from wakes are-fresh covers.exist;
  }
    where
      by : (flow : ℕ) → IsCovered setup entries pools from flow ⊎ IsOwed entries lags.event pools flow
          → IsCovered setup entries new from flow
      by flow (inl is) = woken-covered setup entries pools new key mode from wakes flow is
      by flow (inr owed) = cause owed.cause
        where
          unlike : {P : Type 0} → lags.event ≡ Drop owed.key → P
          unlike drops = absurd (neither (sym takes ∙ drops))
            where
              neither : Take key mode ≡ Drop owed.key → ⊥
              neither e = cc

          cause : ((lags.event ≡ Drop owed.key) × (place : ℕ) × StandsAt entries flow owed.key owed.mode place)
              ⊎ (((lags.event ≡ Drop owed.key) ⊎ (lags.event ≡ Take owed.key owed.mode)) × IsParked pools owed.key
              owed.mode flow) → IsCovered setup entries new from flow
          cause (inl (drops, place, stands)) = unlike drops
          cause (inr (inl drops, parked)) = unlike drops
          cause (inr (inr other, parked)) =
              let same : Take key mode ≡ Take owed.key owed.mode = sym takes ∙ other in
              let key_is : owed.key ≡ key = cc same in
              let mode_is : owed.mode ≡ mode = cc same in
              woken-owed setup entries pools new key mode from wakes are-fresh flow (rw (key_is, mode_is) at parked)

  -- a drop
  module _ (one two new : Pools) (key : Key) (line : List Waiter) (drops : lags.event ≡ Drop key)
      (first : Wakes pools one key Reader from)
      (second : Wakes one two key Writer from) (is_line : IsLineAt entries key line) (last : WakesLine two new line)
    where
      fresh-one : AreFresh setup entries one
      fresh-one = woken-fresh setup entries pools one key Reader from first are-fresh

      fresh-two : AreFresh setup entries two
      fresh-two = woken-fresh setup entries one two key Writer from second fresh-one

      after-one : (flow : ℕ) → IsCovered setup entries one from flow → IsCovered setup entries new from flow
      after-one flow is = line-covered setup entries legal two new key from line is_line last flow
          (woken-covered setup entries one two key Writer from second flow is)

      served-parked : (mode : Mode) (flow : ℕ) → IsParked pools key mode flow → IsCovered setup entries new from flow
      served-parked Reader flow parked = after-one flow
          (woken-owed setup entries pools one key Reader from first are-fresh flow parked)
      served-parked Writer flow parked = by (woken-kept setup entries pools one key Reader from first key Writer flow
          parked)
        where
          by : IsParked one key Writer flow ⊎ IsReady one flow → IsCovered setup entries new from flow
          by (inl there) = line-covered setup entries legal two new key from line is_line last flow
              (woken-owed setup entries one two key Writer from second fresh-one flow there)
          by (inr ready) = after-one flow (inl ready)

      pub told-drop : Covers setup entries new from
      told-drop = record {
        each = λ flow live. by flow (owed_or flow live);
        fresh = line-fresh setup entries legal two new key from line is_line last fresh-two;
        apart = line-apart setup entries legal two new key from line is_line last fresh-two
            (woken-apart setup entries one two key Writer from second fresh-one
            (woken-apart setup entries pools one key Reader from first are-fresh covers.apart));
        exist = line-exist setup entries legal two new key from line is_line last
            (woken-exist setup entries one two key Writer from second fresh-one
            (woken-exist setup entries pools one key Reader from first are-fresh covers.exist));
      }
        where
          by : (flow : ℕ) → IsCovered setup entries pools from flow ⊎ IsOwed entries lags.event pools flow
              → IsCovered setup entries new from flow
          by flow (inl is) = after-one flow (woken-covered setup entries pools one key Reader from first flow is)
          by flow (inr owed) = cause owed.cause
            where
              here : lags.event ≡ Drop owed.key → owed.key ≡ key
              here other = let same : Drop key ≡ Drop owed.key = sym drops ∙ other in cc

              cause : ((lags.event ≡ Drop owed.key) × (place : ℕ) × StandsAt entries flow owed.key owed.mode place)
                  ⊎ (((lags.event ≡ Drop owed.key) ⊎ (lags.event ≡ Take owed.key owed.mode)) × IsParked pools owed.key
                  owed.mode flow) → IsCovered setup entries new from flow
              cause (inl (other, place, stands)) =
                  line-owed setup entries legal two new key from line is_line last flow owed.mode place
                  (subst (λ k. StandsAt entries flow k owed.mode place) (here other) stands)
              cause (inr (inl other, parked)) = served-parked owed.mode flow
                  (subst (λ k. IsParked pools k owed.mode flow) (here other) parked)
              cause (inr (inr takes, parked)) = absurd (neither (sym takes ∙ drops))
                where
                  neither : Take owed.key owed.mode ≡ Drop key → ⊥
                  neither e = cc
