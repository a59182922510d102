-- What nodes hold, by a list of sets.
use Rattle.std.specs.Prelude.{List, []}
use Rattle.std.specs.List.{slice_get}
use Rattle.std.specs.Option.{unwrap_or}
use Rattle.flux_model.specs.declared.programs.Hold.{Hold}
use Rattle.flux_model.specs.Locks.{Holds}

-- each node holds the set at its number; what is no node holds nothing
abbrev pub held_by : List (List Hold) → Holds
held_by sets node = unwrap_or (slice_get sets node) []
