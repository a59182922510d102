-- What comes of a core that is handed on: the same setup, and a journal that begins with the old one.
use Rattle.std.specs.Prelude.{◌≡◌, ◌≢◌, ℕ, if◌then◌else◌, List, ◌++◌, length}
use Rattle.flux_values.specs.Meanings.{LibraryMeaning}
use Rattle.flow_model.specs.declared.journals.Entry.{Entry}
use Rattle.flow_model.specs.Legal.{IsLegal, IsWhole}
use Rattle.flux_laws.specs.Growth.{has_ended, sum_below}
use Rattle.flux_model.specs.declared.items.FlowNo.{FlowNo}
use Rattle.flow_core.specs.States.{CoreState, setup_in, begun_by}

-- a core's flows run in the same
abbrev pub SameSetup : {L : Type 0} → CoreState L → CoreState L → Type 0
SameSetup old new = new.setup ≡ old.setup

-- the same setup, and some entries more, or none
pub record GoesOn {L : Type 0} (old new : CoreState L) : Type 0 where
  pub setup_ : SameSetup old new
  pub more : List Entry
  pub added : new.entries ≡ old.entries ++ more

-- its journal is legal, and its flag is as it was
pub record GoesOnLegally {L : Type 0} (meaning : L → LibraryMeaning) (old new : CoreState L) : Type 0 where
  pub on : GoesOn old new
  pub legal : IsLegal (setup_in meaning new) new.entries
  pub halted_ : new.halted ≡ old.halted

-- and whole
pub record GoesToEnd {L : Type 0} (meaning : L → LibraryMeaning) (old new : CoreState L) : Type 0 where
  pub legally : GoesOnLegally meaning old new
  pub whole : IsWhole (setup_in meaning new) new.entries

-- the setup and the flag stay
pub record SameSetting {L : Type 0} (old new : CoreState L) : Type 0 where
  pub setup_ : SameSetup old new
  pub halted_ : new.halted ≡ old.halted

-- and so do the begun calls of all flows but one
pub record LeavesOthers {L : Type 0} (old new : CoreState L) (flow : FlowNo) : Type 0 where
  pub setting : SameSetting old new
  pub others : (other : ℕ) → flow.0 ≢ other → begun_by new other ≡ begun_by old other

-- the number of flows without `end`
abbrev pub live_count : {L : Type 0} → CoreState L → ℕ
live_count core =
    sum_below (λ flow. if has_ended core.entries flow then 0 else 1) (length core.setup.items)
