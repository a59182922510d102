use Rattle.std.proofs.Common.{◌≡◌, length, replicate}
use Rattle.flux_types.specs.Signatures.{nothing}
use Rattle.flux_types.specs.steps.Filling.{put_lines}
use Rattle.flux_types.proofs.signatures.lines.Given as goal

abbrev pub invariant-loop-decl : goal.invariant-loop-decl
invariant-loop-decl g l =
    let meaning = g.L.Meaning.meaning l.library in
    put_lines meaning.kind l.names l.rest l.sigs ≡ put_lines meaning.kind l.names l.fn.decls (replicate (length l.names) nothing)

abbrev pub decreases-loop-decl : goal.decreases-loop-decl
decreases-loop-decl g l = length l.rest
