-- Steps of the code: names of lines by their sorts. No public clause cites it.
use Rattle.std.specs.Prelude.{ℕ, List, [], ◌∷◌, Option}
use Rattle.flux_syntax.specs.declared.declarations.Word.{Word}
use Rattle.flux_syntax.specs.declared.declarations.Decl.{Decl}
use Rattle.flux_syntax.specs.Words.{naming, defined, sourced, targeted, and_name}
use Rattle.flux_names.specs.declared.sorts.Sort.{Sort}
use Rattle.flux_names.specs.declared.sorts.Sort.TheVariants as sorts
use Rattle.flux_names.specs.Rows.{handled, sessioned}

abbrev pub word_of : Sort → Decl → Option Word
word_of sorts.Naming = naming
word_of sorts.Defined = defined
word_of sorts.Sourced = sourced
word_of sorts.Targeted = targeted
word_of sorts.Handled = handled
word_of sorts.Sessioned = sessioned

-- the distinct names of a sort, after those so far
abbrev pub names_by_after : (Decl → Option Word) → List (List ℕ) → List Decl → List (List ℕ)
names_by_after sort names [] = names
names_by_after sort names (decl ∷ decls) = names_by_after sort (and_name names (sort decl)) decls

abbrev pub names_by : (Decl → Option Word) → List Decl → List (List ℕ)
names_by sort decls = names_by_after sort [] decls
