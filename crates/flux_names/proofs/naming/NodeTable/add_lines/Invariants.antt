use Rattle.std.proofs.Common.{◌≡◌, ◌++◌, drop}
use Rattle.flux_syntax.specs.Words.{names_after, first_words_after}
use Rattle.flux_names.proofs.naming.NodeTable.add_lines.Given as goal

abbrev pub invariant-loop-decl : goal.invariant-loop-decl
invariant-loop-decl l =
    (names_after l.fn.self.names l.fn.decls ≡ names_after l.self.names (drop l.decl-index l.decls))
    × (l.fn.self.words ++ first_words_after l.fn.self.names l.fn.decls ≡ l.self.words ++ first_words_after l.self.names (drop l.decl-index l.decls))
