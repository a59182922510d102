use Rattle.std.proofs.Common.{◌≡◌, replicate}
use Rattle.flux_types.specs.Signatures.{nothing}
use Rattle.flux_types.proofs.signatures.blank.Given as goal

abbrev pub invariant-loop : goal.invariant-loop
invariant-loop l = l.sigs ≡ replicate l.counter nothing
