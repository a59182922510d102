use Rattle.std.proofs.Common.{◌≡◌, ◌++◌, length, map}
use Rattle.flux_model.specs.Texts.{node_name}
use Rattle.flux_check.proofs.checking.path_names.Given as goal

abbrev pub invariant-loop-rest : goal.invariant-loop-rest
invariant-loop-rest l = map (node_name l.program) l.fn.path ≡ l.names ++ map (node_name l.program) l.rest

abbrev pub decreases-loop-rest : goal.decreases-loop-rest
decreases-loop-rest l = length l.rest
