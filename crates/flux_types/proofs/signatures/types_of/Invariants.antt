use Rattle.std.proofs.Common.{◌≡◌, ◌++◌, length}
use Rattle.flux_types.specs.Signatures.{types_of}
use Rattle.flux_values.specs.Meanings.{LibraryMeaning}
use Rattle.flux_types.proofs.signatures.types_of.Given as goal

abbrev pub invariant-loop-rest : goal.invariant-loop-rest
invariant-loop-rest g l =
    let meaning = g.L.Meaning.meaning l.library in
    types_of meaning.kind l.fn.params ≡ l.types ++ types_of meaning.kind l.rest

abbrev pub decreases-loop-rest : goal.decreases-loop-rest
decreases-loop-rest g l = length l.rest
