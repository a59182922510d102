-- Constraints of a node, joined class by class.
use Rattle.std.proofs.Common.{◌≡◌, ◌≤◌, ◌<◌, ◌+◌, ℕ, zero, suc, Bool, true, false, if◌then◌else◌, List, [], ◌∷◌, ◌++◌, length, get_or, set, map, replicate, slice_get, Option, Some, None, Result, Ok, Err, refl, sym, ap, ◌∙◌, arith, inl, inr}
use Rattle.std.specs.List.{filter_map, cons_option, enumerate_from, AllByRecursion}
use Rattle.std.specs.declared.cmp.Ordering.{Ordering}
use Rattle.std.specs.declared.cmp.Ordering.TheVariants.{Less, Equal, Greater}
use Rattle.std.specs.List.Sorted.{IsSortedBy, IsSearchInRange, IsBinarySearchResult}
use Rattle.std.specs.Ordering.{ordering_reverse, is_eq, is_lt}
use Rattle.std.proofs.lemmas.Bool.{cases_lt}
use Rattle.std.proofs.lemmas.List.Sorted.{searchable_from_sorted}
use Rattle.flux_values.specs.declared.answers.Mode.{Mode}
use Rattle.flux_values.specs.declared.answers.Mode.TheVariants.{Reader, Writer}
use Rattle.flux_model.specs.declared.programs.Class.{Class}
use Rattle.flux_model.specs.declared.programs.Hold.{Hold}
use Rattle.flux_model.specs.Modes.{class_cmp}
use Rattle.flux_syntax.specs.declared.declarations.Constraint.{Constraint}
use Rattle.flux_syntax.specs.ProgramOfText.{class_of, is_on, joined, mode_on, hold_on}
use Rattle.flux_names.specs.steps.Classes.{IsPlaceOf, with_mode, with_constraint, with_constraints, holds_of}
use Rattle.flux_names.specs.steps.Nodes.{no_modes}
use Rattle.flux_names.proofs.Canonical.{class_order, is_on_tied, AreInOrder}

-- ---- one constraint more

pub length_with : (c : Constraint) (classes : List Class) (modes : List (Option Mode)) → length modes ≡ length classes → length (with_constraint c classes modes) ≡ length classes
length_with c [] modes e = e
length_with c (class ∷ classes) [] e = absurd (omega arith)
length_with c (class ∷ classes) (mode ∷ modes) e = let more = length_with c classes modes (omega arith) in omega (arith, more)

not_on : (class : Class) (c : Constraint) → (o : Ordering) → class_cmp (class_of c) class ≡ o → is_eq o ≡ false → is_on class c ≡ false
not_on class c o e f = is_on_tied class c ∙ ap is_eq e ∙ f

-- no class is the constraint's
pub untouched : (c : Constraint) (classes : List Class) (modes : List (Option Mode)) → length modes ≡ length classes
    → ((number : ℕ) (class : Class) → slice_get classes number ≡ Some class → is_on class c ≡ false) → with_constraint c classes modes ≡ modes
untouched c [] modes e none = refl
untouched c (class ∷ classes) [] e none = absurd (omega arith)
untouched c (class ∷ classes) (mode ∷ modes) e none =
    rw (none 0 class refl) (ap (λ (l : List (Option Mode)). mode ∷ l) (untouched c classes modes (omega arith) (λ number other is. none (suc number) other is)))

-- the class at a place is the constraint's
tied_less : (class other : Class) (c : Constraint) → class_cmp class (class_of c) ≡ Equal → class_cmp class other ≡ Less → is_on other c ≡ false
tied_less class other c e l = not_on other c Less (sym (class_order.congr class (class_of c) other e) ∙ l) refl

below_tied : (class other : Class) (c : Constraint) → class_cmp other (class_of c) ≡ Equal → class_cmp class other ≡ Less → is_on class c ≡ false
below_tied class other c e l =
    let tied : class_cmp (class_of c) other ≡ Equal = class_order.antisymm (class_of c) other ∙ ap ordering_reverse e in
    let above : class_cmp other class ≡ Greater = class_order.antisymm other class ∙ ap ordering_reverse l in
    not_on class c Greater (class_order.congr (class_of c) other class tied ∙ above) refl

above_get : (low : Class) (classes : List Class) (number : ℕ) (d : Class) → AllByRecursion (λ other. class_cmp low other ≡ Less) classes → number < length classes → class_cmp low (get_or classes number d) ≡ Less
above_get low [] number d above lt = absurd (omega arith)
above_get low (c ∷ classes) zero d above lt = above.0
above_get low (c ∷ classes) (suc number) d above lt = above_get low classes number d above.1 (omega arith)

none_above : (class : Class) (classes : List Class) (c : Constraint) → class_cmp class (class_of c) ≡ Equal → AllByRecursion (λ other. class_cmp class other ≡ Less) classes
    → (number : ℕ) (other : Class) → slice_get classes number ≡ Some other → is_on other c ≡ false
none_above class [] c e above number other is = absurd cc
none_above class (k ∷ classes) c e above zero other is = let same : k ≡ other = cc in rw (← same) (tied_less class k c e above.0)
none_above class (k ∷ classes) c e above (suc number) other is = none_above class classes c e above.1 number other is

pub joined_at : (c : Constraint) (classes : List Class) (modes : List (Option Mode)) (place : ℕ) (d : Option Mode) → AreInOrder classes → length modes ≡ length classes → place < length classes
    → ((class : Class) → class_cmp (get_or classes place class) (class_of c) ≡ Equal) → with_constraint c classes modes ≡ set modes place (with_mode (get_or modes place d) c.mode)
joined_at c [] modes place d order e lt tied = absurd (omega arith)
joined_at c (class ∷ classes) [] place d order e lt tied = absurd (omega arith)
joined_at c (class ∷ classes) (mode ∷ modes) zero d order e lt tied =
    let on : is_on class c ≡ true = is_on_tied class c ∙ ap is_eq (class_order.antisymm (class_of c) class ∙ ap ordering_reverse (tied class)) in
    rw on (ap (λ (l : List (Option Mode)). with_mode mode c.mode ∷ l) (untouched c classes modes (omega arith) (none_above class classes c (tied class) order.0)))
joined_at c (class ∷ classes) (mode ∷ modes) (suc place) d order e lt tied =
    let off : is_on class c ≡ false = below_tied class (get_or classes place class) c (tied class) (above_get class classes place class order.0 (omega arith)) in
    rw off (ap (λ (l : List (Option Mode)). mode ∷ l) (joined_at c classes modes place d order.1 (omega arith) (omega arith) tied))

-- ---- all constraints

pub length_with_all : (cs : List Constraint) (classes : List Class) (modes : List (Option Mode)) → length modes ≡ length classes → length (with_constraints cs classes modes) ≡ length classes
length_with_all [] classes modes e = e
length_with_all (c ∷ cs) classes modes e = length_with_all cs classes (with_constraint c classes modes) (length_with c classes modes e)

pub with_append : (first second : List Constraint) (classes : List Class) (modes : List (Option Mode)) → with_constraints (first ++ second) classes modes ≡ with_constraints second classes (with_constraints first classes modes)
with_append [] second classes modes = refl
with_append (c ∷ first) second classes modes = with_append first second classes (with_constraint c classes modes)

-- a mode with those of the constraints on a class, from the front
abbrev with_all : Class → Option Mode → List Constraint → Option Mode
with_all class mode [] = mode
with_all class mode (c ∷ cs) = with_all class (if is_on class c then with_mode mode c.mode else mode) cs

class_by_class : (class : Class) (classes : List Class) (mode : Option Mode) (modes : List (Option Mode)) (cs : List Constraint) → with_constraints cs (class ∷ classes) (mode ∷ modes) ≡ with_all class mode cs ∷ with_constraints cs classes modes
class_by_class class classes mode modes [] = refl
class_by_class class classes mode modes (c ∷ cs) = class_by_class class classes (if is_on class c then with_mode mode c.mode else mode) (with_constraint c classes modes) cs

nothing_more : (cs : List Constraint) → with_constraints cs [] [] ≡ []
nothing_more [] = refl
nothing_more (c ∷ cs) = nothing_more cs

-- two modes together
abbrev both : Option Mode → Option Mode → Option Mode
both mode None = mode
both mode (Some other) = with_mode mode other

both_none : (mode : Option Mode) → both None mode ≡ mode
both_none None = refl
both_none (Some mode) = refl

join_first : (mode : Option Mode) (own : Mode) (rest : Option Mode) → both (with_mode mode own) rest ≡ both mode (joined own rest)
join_first mode own None = refl
join_first None Reader (Some Reader) = refl
join_first None Reader (Some Writer) = refl
join_first None Writer (Some rest) = refl
join_first (Some Writer) own (Some rest) = writer (joined own (Some rest))
  where
    writer : (mode : Option Mode) → Some Writer ≡ both (Some Writer) mode
    writer None = refl
    writer (Some mode) = refl
join_first (Some Reader) Reader (Some rest) = refl
join_first (Some Reader) Writer (Some rest) = refl

with_all_is : (class : Class) (mode : Option Mode) (cs : List Constraint) → with_all class mode cs ≡ both mode (mode_on class cs)
with_all_is class mode [] = refl
with_all_is class mode (c ∷ cs) = one (is_on class c) refl (λ m. with_all_is class m cs)
  where
    one : (t : Bool) → is_on class c ≡ t → ((m : Option Mode) → with_all class m cs ≡ both m (mode_on class cs)) → with_all class mode (c ∷ cs) ≡ both mode (mode_on class (c ∷ cs))
    one true e more = rw e (more (with_mode mode c.mode) ∙ join_first mode c.mode (mode_on class cs))
    one false e more = rw e (more mode)

-- the modes that constraints give classes
pub modes_are : (cs : List Constraint) (classes : List Class) → with_constraints cs classes (no_modes classes) ≡ map (λ class. mode_on class cs) classes
modes_are cs [] = nothing_more cs
modes_are cs (class ∷ classes) =
    class_by_class class classes None (no_modes classes) cs
    ∙ ap (λ (mode : Option Mode). mode ∷ with_constraints cs classes (no_modes classes)) (with_all_is class None cs ∙ both_none (mode_on class cs))
    ∙ ap (λ (l : List (Option Mode)). mode_on class cs ∷ l) (modes_are cs classes)

holds_from : (f : Class → Option Mode) (number : ℕ) (classes : List Class)
    → filter_map (λ numbered. hold_on numbered.0 numbered.1) (enumerate_from number (map f classes)) ≡ filter_map (λ numbered. hold_on numbered.0 (f numbered.1)) (enumerate_from number classes)
holds_from f number [] = refl
holds_from f number (class ∷ classes) = ap (λ (l : List Hold). cons_option (hold_on number (f class)) l) (holds_from f (number + 1) classes)

-- what a node declares
pub holds_are : (cs : List Constraint) (classes : List Class) → holds_of (with_constraints cs classes (no_modes classes)) ≡ filter_map (λ numbered. hold_on numbered.0 (mode_on numbered.1 cs)) (enumerate_from 0 classes)
holds_are cs classes = ap holds_of (modes_are cs classes) ∙ holds_from (λ class. mode_on class cs) 0 classes

pub no_modes_are : (classes : List Class) → replicate (length classes) None ≡ no_modes classes
no_modes_are [] = refl
no_modes_are (class ∷ classes) = ap (λ (l : List (Option Mode)). None ∷ l) (no_modes_are classes)

-- ---- what a search finds

rises : (classes : List Class) → AreInOrder classes → (k : ℕ) (d : Class) → k + 1 < length classes → class_cmp (get_or classes k d) (get_or classes (k + 1) d) ≡ Less
rises [] order k d lt = absurd (omega arith)
rises (class ∷ classes) order zero d lt = above_get class classes 0 d order.0 (omega arith)
rises (class ∷ classes) order (suc k) d lt = let next : suc k + 1 ≡ suc (k + 1) = omega arith in rw next (rises classes order.1 k d (omega arith))

sorted : (classes : List Class) → AreInOrder classes → IsSortedBy (λ a b. is_lt (class_cmp a b)) classes
sorted classes order k d le lt = ap is_lt (class_order.antisymm (get_or classes (k + 1) d) (get_or classes k d) ∙ ap ordering_reverse (rises classes order k d lt))

found_at : (classes : List Class) (number : ℕ) (class : Class) → slice_get classes number ≡ Some class → (number < length classes) × (get_or classes number class ≡ class)
found_at [] number class e = absurd cc
found_at (c ∷ classes) zero class e = let same : c ≡ class = cc in (omega arith, same)
found_at (c ∷ classes) (suc number) class e = let more = found_at classes number class e in (omega (arith, more.0), more.1)

pub place_of : (classes : List Class) (c : Constraint) (r : Result ℕ ℕ) → AreInOrder classes → IsSearchInRange r (length classes)
    → IsBinarySearchResult (λ (class : Class). class_cmp class (class_of c)) classes r → IsPlaceOf classes c r
place_of classes c (Ok place) order in_range equal = (in_range, λ class. equal class)
place_of classes c (Err place) order in_range parted = λ number class is.
    let at = found_at classes number class is in
    elim (cases_lt number place) [
      | inl lt ↦ let below : class_cmp class (class_of c) ≡ Less = rw at.1 at (parts.0 number class (omega arith) lt) in
          not_on class c Greater (class_order.antisymm (class_of c) class ∙ ap ordering_reverse below) refl
      | inr le ↦ let above : class_cmp class (class_of c) ≡ Greater = rw at.1 at (parts.1 number class le at.0) in
          not_on class c Less (class_order.antisymm (class_of c) class ∙ ap ordering_reverse above) refl
    ]
  where
    parts : (((k : ℕ) (d : Class) → 0 ≤ k → k < place → class_cmp (get_or classes k d) (class_of c) ≡ Less) × ((k : ℕ) (d : Class) → place ≤ k → k < length classes → class_cmp (get_or classes k d) (class_of c) ≡ Greater))
    parts = let p = parted (searchable_from_sorted class_order (λ (class : Class). class) classes (class_of c) (sorted classes order)) in (p.0, p.1)
