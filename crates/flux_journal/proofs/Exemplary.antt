-- The program for tests has its names, numbers and classes in order.
use Rattle.std.proofs.Common.{◌≡◌, ℕ, zero, suc, ◌<◌, Bool, true, false, ◌&&◌, not, List, [], ◌∷◌, map, Some, refl, sym, ap, ◌∙◌, subst, arith, rules}
use Rattle.std.specs.List.{AllByRecursion, list_all, list_any, slice_get}
use Rattle.std.specs.Option.{option_map}
use Rattle.std.specs.Str.{bytes_eq}
use Rattle.std.specs.declared.cmp.Ordering.{Ordering}
use Rattle.std.specs.declared.cmp.Ordering.TheVariants.{Less, Equal, Greater}
use Rattle.std.proofs.lemmas.Bool.{both_ways}
use Rattle.std.proofs.lemmas.Map.Keys.{any_passes_from_place}
use Rattle.std.proofs.lemmas.Option.{slice_get-map}
use Rattle.std.proofs.lemmas.Slice.Eq.{bytes_eq-Decides}
use Rattle.flux_values.specs.Identifiers.{is_word, reserved_words, IsIdentifier}
use Rattle.flux_model.specs.declared.programs.Node.{Node}
use Rattle.flux_model.specs.declared.programs.Class.{Class}
use Rattle.flux_model.specs.Modes.{class_cmp}
use Rattle.flux_model.specs.Names.{IsNamed}
use Rattle.flux_model.specs.Numbered.{IsNumbered}
use Rattle.flux_journal.specs.steps.Examples.{example}
use Rattle.flux_journal.proofs.Cutting.{not_back}
use Rattle.flux_journal.proofs.Keying.{both_true}

abbrev good : List ℕ → Bool
good name = is_word name && not (list_any (bytes_eq name) reserved_words)

identifiers : {X : Type 0} (f : X → List ℕ) (xs : List X) → list_all (λ x. good (f x)) xs ≡ true → AllByRecursion (λ x. IsIdentifier (f x)) xs
identifiers f [] e = tt
identifiers f (x ∷ xs) e =
    let two = both_true (good (f x)) (list_all (λ y. good (f y)) xs) e in
    let one = both_true (is_word (f x)) (not (list_any (bytes_eq (f x)) reserved_words)) two.0 in
    (record { word = one.0; free = not_back (list_any (bytes_eq (f x)) reserved_words) one.1 }, identifiers f xs two.1)

-- each name is another than those after it
abbrev apart : List (List ℕ) → Bool
apart [] = true
apart (name ∷ names) = not (list_any (bytes_eq name) names) && apart names

not_behind : (name : List ℕ) (names : List (List ℕ)) → list_any (bytes_eq name) names ≡ false → (k : ℕ) (other : List ℕ) → slice_get names k ≡ Some other → name ≡ other → ⊥
not_behind name names none k other at same =
    both_ways (list_any (bytes_eq name) names) none (any_passes_from_place (bytes_eq name) names k other at ((bytes_eq-Decides name other).1 same))

apart_at : (names : List (List ℕ)) → apart names ≡ true → (a b : ℕ) (name other : List ℕ) → slice_get names a ≡ Some name → slice_get names b ≡ Some other → name ≡ other → a ≡ b
apart_at [] e a b name other at bt same = absurd cc
apart_at (n ∷ names) e zero zero name other at bt same = refl
apart_at (n ∷ names) e zero (suc b) name other at bt same =
    let two = both_true (not (list_any (bytes_eq n) names)) (apart names) e in
    let is : n ≡ name = cc in
    absurd (not_behind n names (not_back (list_any (bytes_eq n) names) two.0) b other bt (is ∙ same))
apart_at (n ∷ names) e (suc a) zero name other at bt same =
    let two = both_true (not (list_any (bytes_eq n) names)) (apart names) e in
    let is : n ≡ other = cc in
    absurd (not_behind n names (not_back (list_any (bytes_eq n) names) two.0) a name at (is ∙ sym same))
apart_at (n ∷ names) e (suc a) (suc b) name other at bt same =
    let two = both_true (not (list_any (bytes_eq n) names)) (apart names) e in
    ap suc (apart_at names two.1 a b name other at bt same)

apart_by : {X : Type 0} (f : X → List ℕ) (xs : List X) → apart (map f xs) ≡ true → (a b : ℕ) (x y : X) → slice_get xs a ≡ Some x → slice_get xs b ≡ Some y → f x ≡ f y → a ≡ b
apart_by f xs e a b x y at bt same =
    apart_at (map f xs) e a b (f x) (f y) (slice_get-map f xs a ∙ ap (option_map f) at) (slice_get-map f xs b ∙ ap (option_map f) bt) same

pub example_named : IsNamed example
example_named = record {
  nodes = identifiers (λ (n : Node). n.name) example.nodes refl;
  classes = identifiers (λ (c : Class). c.name) example.classes refl;
  apart = apart_by (λ (n : Node). n.name) example.nodes refl;
  classes_apart = λ a b x y at bt same scope. apart_by (λ (c : Class). c.name) example.classes refl a b x y at bt same;
}

abbrev is_less : Ordering → Bool
is_less Less = true
is_less Equal = false
is_less Greater = false

less_is : (o : Ordering) → is_less o ≡ true → o ≡ Less
less_is Less e = refl
less_is Equal e = absurd cc
less_is Greater e = absurd cc

abbrev in_order : List Class → Bool
in_order [] = true
in_order (c ∷ classes) = list_all (λ d. is_less (class_cmp c d)) classes && in_order classes

all_at : (c : Class) (classes : List Class) → list_all (λ d. is_less (class_cmp c d)) classes ≡ true → (k : ℕ) (d : Class) → slice_get classes k ≡ Some d → class_cmp c d ≡ Less
all_at c [] e k d at = absurd cc
all_at c (x ∷ classes) e zero d at =
    let two = both_true (is_less (class_cmp c x)) (list_all (λ y. is_less (class_cmp c y)) classes) e in
    let is : x ≡ d = cc in
    less_is (class_cmp c d) (subst (λ (y : Class). is_less (class_cmp c y) ≡ true) is two.0)
all_at c (x ∷ classes) e (suc k) d at =
    let two = both_true (is_less (class_cmp c x)) (list_all (λ y. is_less (class_cmp c y)) classes) e in
    all_at c classes two.1 k d at

ordered_at : (classes : List Class) → in_order classes ≡ true → (low high : ℕ) (first second : Class) → low < high → slice_get classes low ≡ Some first → slice_get classes high ≡ Some second → class_cmp first second ≡ Less
ordered_at [] e low high first second lt at bt = absurd cc
ordered_at (c ∷ classes) e low zero first second lt at bt = absurd (omega arith)
ordered_at (c ∷ classes) e zero (suc high) first second lt at bt =
    let two = both_true (list_all (λ d. is_less (class_cmp c d)) classes) (in_order classes) e in
    let is : c ≡ first = cc in
    subst (λ (x : Class). class_cmp x second ≡ Less) is (all_at c classes two.0 high second bt)
ordered_at (c ∷ classes) e (suc low) (suc high) first second lt at bt =
    let two = both_true (list_all (λ d. is_less (class_cmp c d)) classes) (in_order classes) e in
    ordered_at classes two.1 low high first second (omega arith) at bt

pub example_numbered : IsNumbered example
example_numbered = record {
  few = omega arith;
  few_classes = omega arith;
  few_sources = omega arith;
  few_predicates = omega arith;
  parts = search rules;
  canonical = ordered_at example.classes refl;
  nodes = search rules;
  classes = search rules;
  patterns = search rules;
  sources = tt;
}
