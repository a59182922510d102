use Rattle.std.proofs.Common.{◌≡◌, take}
use Rattle.flux_items.proofs.names.names_of.Given as goal

abbrev pub invariant-loop-name : goal.invariant-loop-name
invariant-loop-name l = l.names ≡ take l.name-index l.name-items
