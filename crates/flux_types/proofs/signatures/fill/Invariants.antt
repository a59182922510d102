use Rattle.std.proofs.Common.{◌≡◌, length, replicate, fold, take}
use Rattle.flux_types.specs.Signatures.{nothing}
use Rattle.flux_types.specs.steps.Filling.{put_lines, put_node}
use Rattle.flux_types.proofs.signatures.fill.Given as goal

abbrev pub invariant-loop-number : goal.invariant-loop-number
invariant-loop-number g l =
    let meaning = g.L.Meaning.meaning l.library in
    l.sigs ≡ fold (put_node l.nodes) (put_lines meaning.kind l.names l.decls (replicate (length l.names) nothing)) (take l.number-index l.order)
