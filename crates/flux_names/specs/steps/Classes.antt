-- Steps of the code: classes so far, and modes by class. No public clause cites it.
use Rattle.std.specs.Prelude.{◌≡◌, ◌<◌, ℕ, length, slice_get, slice_index_or, Result, Ok, Err, Bool, false, not, if◌then◌else◌, List, [], ◌∷◌, ◌++◌, Option, Some, None}
use Rattle.std.specs.List.{list_any, filter_map, enumerate_from}
use Rattle.std.specs.declared.cmp.Ordering.TheVariants.{Equal}
use Rattle.std.specs.Ordering.{is_eq}
use Rattle.flux_values.specs.declared.answers.Mode.{Mode}
use Rattle.flux_values.specs.declared.answers.Mode.TheVariants.{Reader, Writer}
use Rattle.flux_model.specs.declared.programs.Class.{Class}
use Rattle.flux_model.specs.declared.programs.Hold.{Hold}
use Rattle.flux_model.specs.Modes.{class_cmp}
use Rattle.flux_syntax.specs.declared.declarations.Word.{Word}
use Rattle.flux_syntax.specs.declared.declarations.Constraint.{Constraint}
use Rattle.flux_syntax.specs.ProgramOfText.{class_of, insert_class, is_on, hold_on}
use Rattle.flux_names.specs.Rows.{word_if}

abbrev pub has_class : List Class → Class → Bool
has_class classes class = list_any (λ other. is_eq (class_cmp class other)) classes

-- the classes so far, and those of constraints
abbrev pub classes_after : List Class → List Constraint → List Class
classes_after classes [] = classes
classes_after classes (constraint ∷ constraints) =
    classes_after (insert_class (class_of constraint) classes) constraints

-- the words of those that are new
abbrev pub words_by : List Class → List Constraint → List Word
words_by classes [] = []
words_by classes (constraint ∷ constraints) =
    word_if (not (has_class classes (class_of constraint))) constraint.name
    ++ words_by (insert_class (class_of constraint) classes) constraints

-- ---- modes

-- what a search finds: the place of the class that a constraint is on, or that there is none
abbrev pub IsPlaceOf : List Class → Constraint → Result ℕ ℕ → Type 0
IsPlaceOf classes constraint (Ok place) = (place < length classes)
    × ((class : Class)
    → class_cmp (slice_index_or classes place class) (class_of constraint) ≡ Equal)
IsPlaceOf classes constraint (Err place) =
    (number : ℕ) (class : Class) → slice_get classes number ≡ Some class
    → is_on class constraint ≡ false

-- a mode with one more: the writer wins
abbrev pub with_mode : Option Mode → Mode → Option Mode
with_mode None mode = Some mode
with_mode (Some Writer) mode = Some Writer
with_mode (Some Reader) mode = Some mode

-- the modes of classes, with that of a constraint
abbrev pub with_constraint : Constraint → List Class → List (Option Mode) → List (Option Mode)
with_constraint constraint [] modes = modes
with_constraint constraint (class ∷ classes) [] = []
with_constraint constraint (class ∷ classes) (mode ∷ modes) =
    (if is_on class constraint then with_mode mode constraint.mode else mode)
    ∷ with_constraint constraint classes modes

abbrev pub with_constraints : List Constraint → List Class → List (Option Mode) → List (Option Mode)
with_constraints [] classes modes = modes
with_constraints (constraint ∷ constraints) classes modes =
    with_constraints constraints classes (with_constraint constraint classes modes)

-- the holds of the classes that have a mode
abbrev pub holds_of : List (Option Mode) → List Hold
holds_of modes = filter_map (λ numbered. hold_on numbered.0 numbered.1) (enumerate_from 0 modes)
