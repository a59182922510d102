-- How constraints are held, and the order of classes.
use Rattle.std.specs.Prelude.{◌≡◌, ℕ, ◌<◌, Bool, true, false, List, Some}
use Rattle.std.specs.List.{slice_get}
use Rattle.std.specs.declared.cmp.Ordering.{Ordering}
use Rattle.std.specs.declared.cmp.Ordering.TheVariants.{Less}
use Rattle.std.specs.Ordering.{nat_cmp, bool_cmp, ordering_then}
use Rattle.std.specs.Cmp.Lexicographic.{slice_cmp}
use Rattle.flux_values.specs.declared.answers.Mode.{Mode}
use Rattle.flux_values.specs.declared.answers.Mode.TheVariants.{Reader, Writer}
use Rattle.flux_model.specs.declared.programs.Class.{Class}

-- two modes are in conflict where one is a writer
abbrev pub conflict : Mode → Mode → Bool
conflict Reader Reader = false
conflict Reader Writer = true
conflict Writer mode = true

-- a mode is at least another: a reader is below a writer
abbrev pub at_least : Mode → Mode → Bool
at_least Writer mode = true
at_least Reader Reader = true
at_least Reader Writer = false

-- classes are ordered bytewise by name; for equal names the program-wide class comes first
abbrev pub class_cmp : Class → Class → Ordering
class_cmp a b = ordering_then (slice_cmp nat_cmp a.name b.name) (bool_cmp a.session b.session)

-- classes in canonical order, each once
abbrev pub AreCanonical : List Class → Type 0
AreCanonical classes = (low high : ℕ) (first second : Class) → low < high
    → slice_get classes low ≡ Some first → slice_get classes high ≡ Some second
    → class_cmp first second ≡ Less
