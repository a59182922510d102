use Rattle.std.proofs.Common.{◌≡◌, map, take}
use Rattle.std.specs.List.{filter_map}
use Rattle.std.specs.FinMap.{keys}
use Rattle.nodes_cache.specs.Entries.{entry_name}
use Rattle.nodes_cache.proofs.entries.entry_names.Given as goal

abbrev pub invariant-loop-place : goal.invariant-loop-place
invariant-loop-place l = map (λ n. n.now) l.names.items ≡ filter_map entry_name (take l.place (keys l.cell))
