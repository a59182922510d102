-- Flows that are set aside, since their calls are begun.
use Rattle.std.specs.Prelude.{◌≡◌, ◌≢◌, ℕ, true, None, IsSome, List, ◌++◌}
use Rattle.std.specs.List.{AllByRecursion}
use Rattle.flux_values.specs.Meanings.{LibraryMeaning}
use Rattle.flux_model.specs.declared.items.FlowNo.{FlowNo}
use Rattle.flow_model.specs.declared.journals.CallMade.{CallMade}
use Rattle.flow_model.specs.declared.journals.Entry.{Entry}
use Rattle.flow_model.specs.declared.journals.Event.TheVariants.{Call}
use Rattle.flow_model.specs.Setup.{Setup}
use Rattle.flow_model.specs.Legal.{IsLegal}
use Rattle.flow_core.specs.States.{CoreState, setup_in, begun_by}
use Rattle.flow_waits.specs.Idle.{IsFirstIdle}
use Rattle.flow_orders.specs.Turns.{IsBefore}
use Rattle.flow_waits.specs.steps.Waking.{has, IsMore, IsLess}
use Rattle.flow_waits.specs.steps.Covers.{Pools, IsReady, Covers}

-- pools with some flows beside those that are looked at
abbrev pub beside : Pools → List ℕ → Pools
beside pools aside =
    record { ready = aside ++ pools.ready; readers = pools.readers; writers = pools.writers }

-- candidates, and the flows beside them
pub record Parted : Type 0 where
  pub pools : Pools
  pub aside : List ℕ

-- those that are aside have begun calls, and with them all flows are covered
pub record AreAside {L : Type 0} (meaning : L → LibraryMeaning) (core : CoreState L) (pools : Pools)
    (aside : List ℕ) (from : ℕ) : Type 0 where
  pub covers : Covers (setup_in meaning core) core.entries (beside pools aside) from
  pub begun : (flow : ℕ) → has aside flow ≡ true → IsSome (begun_by core flow)

-- a flow is the first that can go on and has no begun call; it is looked at, before all others that have none
pub record IsIdleChosen {L : Type 0} (meaning : L → LibraryMeaning) (core : CoreState L) (pools : Pools)
    (from : ℕ) (flow : FlowNo) : Type 0 where
  pub first : IsFirstIdle meaning core from flow
  pub ready : IsReady pools flow.0
  pub earliest : (other : ℕ) → IsReady pools other → begun_by core other ≡ None → flow.0 ≢ other
      → IsBefore from flow.0 other

-- a flow that was aside is looked at again
pub record LooksAgain (old new : Parted) (flow : ℕ) : Type 0 where
  pub more : let was = old.pools in let is = new.pools in IsMore was.ready is.ready flow
  pub less : IsLess old.aside new.aside flow
  pub readers_ : let was = old.pools in let is = new.pools in is.readers ≡ was.readers
  pub writers_ : let was = old.pools in let is = new.pools in is.writers ≡ was.writers

-- ---- a law

-- an entry is a call
pub record IsCallEntry (entry : Entry) : Type 0 where
  pub made : CallMade
  pub is : entry.event ≡ Call made

-- candidates that cover all flows still do where calls were finished since
abbrev pub CallsKeepCovers : Type 0
CallsKeepCovers = (setup : Setup) (entries more : List Entry) (pools : Pools) (from : ℕ)
    → Covers setup entries pools from → IsLegal setup (entries ++ more) → AllByRecursion IsCallEntry more
    → Covers setup (entries ++ more) pools from
