-- Cores that are driven to their end, and what may drive them.
use Rattle.std.specs.Prelude.{◌≡◌, List, [], Result, IfOk}
use Rattle.flux_values.specs.Meanings.{LibraryMeaning}
use Rattle.flow_model.specs.declared.journals.Entry.{Entry}
use Rattle.flow_model.specs.Legal.{IsLegal, IsWhole}
use Rattle.flow_model.specs.Setup.{Setup}
use Rattle.flux_cli.specs.declared.values.Runtime.{Runtime}
use Rattle.flux_runs.specs.Orders.{IsOrderOf}
use Rattle.flow_core.specs.States.{CoreState, setup_in}
use Rattle.flow_core.specs.Runs.{SameSetup}
use Rattle.flux_values.specs.declared.failures.Memory.{Memory}
use Rattle.flux_commands.specs.BuiltIn.{BuiltInLibrary, meaning_in}

-- a core was driven to its end by a runtime, from an empty journal
pub record IsDriven (setup : Setup) (runtime : Runtime) (entries : List Entry) : Type 0 where
  pub legal : IsLegal setup entries
  pub whole : IsWhole setup entries
  pub order : IsOrderOf runtime setup [] entries

-- the same of a core as it was and is
pub record DrivesTo {L : Type 0} (meaning : L → LibraryMeaning) (runtime : Runtime)
    (old new : CoreState L) : Type 0 where
  pub setup_ : SameSetup old new
  pub driven : IsDriven (setup_in meaning old) runtime new.entries

-- cores without entries may be handed to a call that drives them, with a pre and a post of its own
pub record CanDrive (pre : CoreState BuiltInLibrary → Runtime → Type 0)
    (post : CoreState BuiltInLibrary → Runtime → Result (CoreState BuiltInLibrary) Memory → Type 0) : Type 0 where
  pub may : (core : CoreState BuiltInLibrary) (runtime : Runtime) → core.entries ≡ [] → pre core runtime
  pub drives : (core : CoreState BuiltInLibrary) (runtime : Runtime) (result : Result (CoreState BuiltInLibrary) Memory)
      → core.entries ≡ [] → post core runtime result → IfOk result (DrivesTo meaning_in runtime core)
