-- The nodes of all `handle` lines have names, where no row on names applies.
use Rattle.std.proofs.Common.{◌≡◌, ℕ, List, [], ◌∷◌, ◌++◌, None}
use Rattle.std.specs.List.{AllByRecursion}
use Rattle.flux_values.specs.Meanings.{LibraryMeaning}
use Rattle.flux_syntax.specs.declared.declarations.Decl.{Decl}
use Rattle.flux_syntax.specs.declared.declarations.Decl.TheVariants.{Handler}
use Rattle.flux_syntax.specs.Words.{names_of}
use Rattle.flux_syntax.specs.Least.{first_fault}
use Rattle.flux_syntax.proofs.RowLemmas.{none_each, wordless}
use Rattle.flux_names.specs.Rows.{rows, used_names, not_among}
use Rattle.flux_edges.proofs.Texts.{HasNode}
use Rattle.flux_check.proofs.Numbered.{first_known}

each : (names : List (List ℕ)) (decls : List Decl) → AllByRecursion (λ decl. not_among names (used_names decl) ≡ []) decls → AllByRecursion (HasNode names) decls
each names [] all = tt
each names (Handler node codes handler ∷ decls) (own, all) = ((first_known names node (handler ∷ []) own).0, each names decls all)
each names (other ∷ decls) (own, all) = (tt, each names decls all)

pub handles_named : (meaning : LibraryMeaning) (decls : List Decl) → first_fault (rows meaning decls) ≡ None → AllByRecursion (HasNode (names_of decls)) decls
handles_named meaning decls none =
    let empty = wordless (rows meaning decls) none in
    each (names_of decls) decls (none_each (λ decl. not_among (names_of decls) (used_names decl)) decls empty.1.0)
