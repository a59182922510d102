-- Who can go on without a call that is run elsewhere.
use Rattle.std.specs.Prelude.{◌≡◌, ℕ, None}
use Rattle.flux_values.specs.Meanings.{LibraryMeaning}
use Rattle.flux_model.specs.declared.items.FlowNo.{FlowNo}
use Rattle.flow_model.specs.Events.{IsLive}
use Rattle.flux_laws.specs.Going.{IsBlocked, CanGoOn}
use Rattle.flow_core.specs.States.{CoreState, setup_in, begun_by}
use Rattle.flow_orders.specs.Turns.{IsBefore}

module _ {L : Type 0} (meaning : L → LibraryMeaning) (core : CoreState L) where
  -- a flow can go on, and has no begun call
  pub record IsIdle (flow : ℕ) : Type 0 where
    pub can : CanGoOn (setup_in meaning core) core.entries flow
    pub idle : begun_by core flow ≡ None

  -- the first such flow, from a number on
  pub record IsFirstIdle (from : ℕ) (flow : FlowNo) : Type 0 where
    pub is : IsIdle flow.0
    pub first : (other : ℕ) → IsIdle other → IsBefore from other flow.0 → ⊥

  -- there is none: all live flows without a begun call are blocked
  abbrev pub AllAreBlocked : Type 0
  AllAreBlocked = (flow : ℕ) → IsLive (setup_in meaning core) core.entries flow → begun_by core flow ≡ None
      → IsBlocked (setup_in meaning core) core.entries flow
