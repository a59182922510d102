use Rattle.std.proofs.Common.{◌≡◌, drop}
use Rattle.flux_syntax.specs.Words.{names_of, names_after}
use Rattle.flux_types.proofs.words.names_of.Given as goal

abbrev pub invariant-loop-decl : goal.invariant-loop-decl
invariant-loop-decl l = names_of l.decls ≡ names_after l.names (drop l.decl-index l.decls)
