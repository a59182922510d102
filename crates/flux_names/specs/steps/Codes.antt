-- Steps of the code: the codes that nodes have so far. No public clause cites it.
use Rattle.std.specs.Prelude.{ℕ, ◌==◌, ◌&&◌, Bool, true, if◌then◌else◌, List, [], ◌∷◌, ◌++◌, map, Option, Some, None}
use Rattle.std.specs.List.{list_any}
use Rattle.std.specs.Str.{bytes_eq}
use Rattle.flux_syntax.specs.declared.declarations.Word.{Word}
use Rattle.flux_names.specs.Rows.{CodeOn, code_of, word_if}

-- names of nodes, each with a code
abbrev pub Taken : Type 0
Taken = List (List ℕ × ℕ)

abbrev pub codes_on : Word → List Word → List CodeOn
codes_on node numbers = map (λ number. record { node = node; number = number }) numbers

abbrev pub has_code : Taken → List ℕ → ℕ → Bool
has_code taken node code = list_any (λ other. bytes_eq node other.0 && (code == other.1)) taken

abbrev pub is_bad : Taken → List ℕ → Option ℕ → Bool
is_bad taken node None = true
is_bad taken node (Some code) = has_code taken node code

abbrev pub is_bad_by : Taken → CodeOn → Bool
is_bad_by taken code = is_bad taken code.node.text (code_of code.number.text)

abbrev pub with_code : Taken → List ℕ → Option ℕ → Taken
with_code taken node None = taken
with_code taken node (Some code) =
    if has_code taken node code then taken else taken ++ (node, code) ∷ []

abbrev pub and_code : Taken → CodeOn → Taken
and_code taken code = with_code taken code.node.text (code_of code.number.text)

abbrev pub and_codes : Taken → List CodeOn → Taken
and_codes taken [] = taken
and_codes taken (code ∷ codes) = and_codes (and_code taken code) codes

abbrev pub bad_codes_by : Taken → List CodeOn → List Word
bad_codes_by taken [] = []
bad_codes_by taken (code ∷ codes) =
    word_if (is_bad_by taken code) code.number ++ bad_codes_by (and_code taken code) codes
