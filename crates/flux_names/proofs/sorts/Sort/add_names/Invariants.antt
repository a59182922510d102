use Rattle.std.proofs.Common.{◌≡◌, drop}
use Rattle.flux_names.specs.steps.Sorts.{word_of, names_by_after}
use Rattle.flux_names.proofs.sorts.Sort.add_names.Given as goal

abbrev pub invariant-loop-decl : goal.invariant-loop-decl
invariant-loop-decl l =
    names_by_after (word_of l.fn.self) l.fn.names l.fn.decls ≡ names_by_after (word_of l.fn.self) l.names (drop l.decl-index l.decls)
