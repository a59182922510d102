-- Steps of the code: names that are there twice, by the names before. No public clause cites it.
use Rattle.std.specs.Prelude.{ℕ, Bool, false, if◌then◌else◌, List, [], ◌∷◌, ◌++◌, Option, Some, None}
use Rattle.flux_syntax.specs.declared.declarations.Word.{Word}
use Rattle.flux_syntax.specs.declared.declarations.Decl.{Decl}
use Rattle.flux_syntax.specs.Words.{known, and_name}
use Rattle.flux_names.specs.Rows.{is_patterned, listed_if}

abbrev pub is_known : List (List ℕ) → Option Word → Bool
is_known names None = false
is_known names (Some word) = known names word.text

-- the name of a line, where it stood before: among those of plain lines, if this is a flow with a
-- pattern list
abbrev pub repeated_in : (Decl → Option Word) → List (List ℕ) → List (List ℕ) → Decl → List Word
repeated_in sort names plain decl =
    listed_if (is_known (if is_patterned decl then plain else names) (sort decl)) (sort decl)

abbrev pub and_plain : List (List ℕ) → (Decl → Option Word) → Decl → List (List ℕ)
and_plain plain sort decl = if is_patterned decl then plain else and_name plain (sort decl)

abbrev pub repeated_by : (Decl → Option Word) → List (List ℕ) → List (List ℕ) → List Decl
    → List Word
repeated_by sort names plain [] = []
repeated_by sort names plain (decl ∷ decls) =
    repeated_in sort names plain decl
    ++ repeated_by sort (and_name names (sort decl)) (and_plain plain sort decl) decls
