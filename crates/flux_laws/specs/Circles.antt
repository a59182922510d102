-- No waits form a circle.
use Rattle.std.specs.Prelude.{List}
use Rattle.flow_model.specs.declared.journals.Entry.{Entry}
use Rattle.flow_model.specs.Setup.{Setup}
use Rattle.flux_model.specs.Locks.{AreLocks}
use Rattle.flow_model.specs.Waits.{WaitsAreRight, IsFreeOfCycles}

-- where each wait is right, with the program's locks, no waits form a cycle
abbrev pub WaitsNeverCircle : Type 0
WaitsNeverCircle = (setup : Setup) (entries : List Entry) → AreLocks setup.program setup.locks
    → WaitsAreRight setup entries → IsFreeOfCycles setup entries
