use Rattle.std.proofs.Common.{◌≡◌, drop}
use Rattle.flux_names.specs.Rows.{source_node}
use Rattle.flux_names.specs.steps.Sorts.{names_by_after}
use Rattle.flux_names.proofs.signatures.add_source_nodes.Given as goal

abbrev pub invariant-loop-decl : goal.invariant-loop-decl
invariant-loop-decl g l =
    names_by_after (source_node (g.L.Meaning.meaning l.library)) l.fn.names l.fn.decls
    ≡ names_by_after (source_node (g.L.Meaning.meaning l.library)) l.names (drop l.decl-index l.decls)
