use Rattle.std.proofs.Common.{◌≡◌, take}
use Rattle.flux_library.proofs.signatures.kinds.Given as goal

abbrev pub invariant-loop-kind : goal.invariant-loop-kind
invariant-loop-kind l = l.copied ≡ take l.kind-index l.kinds
