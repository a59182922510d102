-- Conflicting sections never overlap.
use Rattle.std.specs.Prelude.{ℕ, ◌<◌, List, length}
use Rattle.flow_model.specs.declared.journals.Entry.{Entry}
use Rattle.flow_model.specs.Setup.{Setup}
use Rattle.flux_model.specs.Locks.{AreLocks}
use Rattle.flow_model.specs.Events.{FollowsWalk}
use Rattle.flow_model.specs.Exclusion.{TakesExclude, SectionsExclude}

-- where flows follow their walks with the program's locks, and no take is made where another flow holds that key in
-- conflict, no two sections conflict
abbrev pub SectionsNeverConflict : Type 0
SectionsNeverConflict = (setup : Setup) (entries : List Entry) → AreLocks setup.program setup.locks
    → ((flow : ℕ) → flow < length setup.items → FollowsWalk setup entries flow)
    → TakesExclude entries → SectionsExclude setup entries
