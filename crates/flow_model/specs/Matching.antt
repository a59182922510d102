-- Which case of a flow is taken, and which handler of a failure.
use Rattle.std.specs.Prelude.{ℕ, ◌+◌, ◌==◌, ◌&&◌, Bool, true, false, if◌then◌else◌, List, [], ◌∷◌, Option, Some, None}
use Rattle.std.specs.List.{slice_get, list_any, find}
use Rattle.std.specs.Option.{option_or, option_map}
use Rattle.flux_values.specs.declared.values.Kind.{Kind}
use Rattle.flux_values.specs.declared.values.Kind.TheVariants as kinds
use Rattle.flux_values.specs.declared.values.Value.{Value}
use Rattle.flux_values.specs.Values.{kind_of}
use Rattle.flux_values.specs.Meanings.{LibraryMeaning}
use Rattle.flux_model.specs.declared.programs.NodeNo.{NodeNo}
use Rattle.flux_model.specs.declared.programs.Case.{Case}
use Rattle.flux_model.specs.declared.programs.HandleArm.{HandleArm}

abbrev pub same_kind : Kind → Kind → Bool
same_kind kinds.Int kinds.Int = true
same_kind kinds.Bool kinds.Bool = true
same_kind kinds.Text kinds.Text = true
same_kind a b = false

-- a value is of the predicate's kind, and the predicate holds of it
abbrev pub passes : LibraryMeaning → List ℕ → Option Kind → Value → Bool
passes meaning name None value = false
passes meaning name (Some kind) value = same_kind kind (kind_of value) && meaning.test name value

abbrev pub passes_named : LibraryMeaning → Option (List ℕ) → Value → Bool
passes_named meaning None value = false
passes_named meaning (Some name) value = passes meaning name (meaning.predicate name) value

-- a pattern without a number matches every value; one with a number where that predicate holds
abbrev pub pattern_matches : LibraryMeaning → List (List ℕ) → Option ℕ → Value → Bool
pattern_matches meaning predicates None value = true
pattern_matches meaning predicates (Some number) value =
    passes_named meaning (slice_get predicates number) value

-- as many values as patterns, each matched by the pattern in its place
abbrev pub all_match : LibraryMeaning → List (List ℕ) → List (Option ℕ) → List Value → Bool
all_match meaning predicates [] [] = true
all_match meaning predicates [] (value ∷ values) = false
all_match meaning predicates (pattern ∷ patterns) [] = false
all_match meaning predicates (pattern ∷ patterns) (value ∷ values) =
    pattern_matches meaning predicates pattern value && all_match meaning predicates patterns values

-- no patterns at all match everything
abbrev pub patterns_match : LibraryMeaning → List (List ℕ) → List (Option ℕ) → List Value → Bool
patterns_match meaning predicates [] values = true
patterns_match meaning predicates (pattern ∷ patterns) values =
    all_match meaning predicates (pattern ∷ patterns) values

-- the first case that fits, with its place, counted from this one
abbrev pub first_case : (Case → Bool) → ℕ → List Case → Option (ℕ × Case)
first_case fits place [] = None
first_case fits place (case ∷ cases) =
    if fits case then Some (place, case) else first_case fits (place + 1) cases

-- an arm names a code, or no codes at all
abbrev pub names_code : ℕ → HandleArm → Bool
names_code code arm = list_any (λ own. own == code) arm.codes

abbrev pub has_no_codes : List ℕ → Bool
has_no_codes [] = true
has_no_codes (code ∷ codes) = false

-- the handler for a code: of the first arm that names it, or else of the first arm without codes
abbrev pub handler_for : List HandleArm → ℕ → Option NodeNo
handler_for arms code = option_map (λ arm. arm.node)
    (option_or (find (names_code code) arms) (find (λ arm. has_no_codes arm.codes) arms))
