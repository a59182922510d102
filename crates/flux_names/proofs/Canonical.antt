-- Classes in canonical order: a class more, in any order of coming; what is in the order, and where.
use Rattle.std.proofs.Common.{◌≡◌, ◌≤◌, ◌+◌, ℕ, zero, suc, ◌||◌, Bool, true, false, not, List, [], ◌∷◌, ◌++◌, length, map, slice_get, Some, refl, sym, ap, ◌∙◌, arith}
use Rattle.std.specs.List.{list_any, AllByRecursion}
use Rattle.std.specs.List.Sorted.{IsStrictlySortedBy}
use Rattle.std.specs.declared.cmp.Ordering.{Ordering}
use Rattle.std.specs.declared.cmp.Ordering.TheVariants.{Less, Equal, Greater}
use Rattle.std.specs.Ordering.{nat_cmp, bool_cmp, ordering_then, ordering_reverse, is_eq}
use Rattle.std.specs.BTreeSet.{insert_key}
use Rattle.std.specs.BTreeMap.{is_at}
use Rattle.std.specs.Cmp.{IsTotalOrder, bool_cmp_total}
use Rattle.std.specs.Cmp.Lexicographic.{slice_cmp, nat_list_cmp_total}
use Rattle.std.proofs.lemmas.Cmp.{then_total, on_total}
use Rattle.std.proofs.lemmas.Map.Text.{is_eq-slice_cmp}
use Rattle.std.proofs.lemmas.Slice.Eq.{bytes_eq-Decides}
use Rattle.std.specs.Bool.{⊤}
use Rattle.std.proofs.lemmas.List.{append_assoc}
use Rattle.std.proofs.lemmas.List.Folds.{list_any-append}
use Rattle.std.proofs.Math.Bool.{or-false}
use Rattle.flux_model.specs.declared.programs.Class.{Class}
use Rattle.flux_model.specs.Modes.{class_cmp, AreCanonical}
use Rattle.flux_syntax.specs.declared.declarations.Word.{Word}
use Rattle.flux_syntax.specs.declared.declarations.Constraint.{Constraint}
use Rattle.flux_syntax.specs.ProgramOfText.{class_of, insert_class, classes_among, is_on}
use Rattle.flux_names.specs.Rows.{word_if, class_words_after}
use Rattle.flux_names.specs.steps.Classes.{has_class, classes_after, words_by}

-- ---- the order

pub class_order : IsTotalOrder class_cmp
class_order = then_total (on_total (λ (c : Class). c.name) nat_list_cmp_total) (on_total (λ (c : Class). c.session) bool_cmp_total)

flip_less : (a b : Class) → class_cmp a b ≡ Less → class_cmp b a ≡ Greater
flip_less a b e = class_order.antisymm b a ∙ ap ordering_reverse e

flip_greater : (a b : Class) → class_cmp a b ≡ Greater → class_cmp b a ≡ Less
flip_greater a b e = class_order.antisymm b a ∙ ap ordering_reverse e

flip_equal : (a b : Class) → class_cmp a b ≡ Equal → class_cmp b a ≡ Equal
flip_equal a b e = class_order.antisymm b a ∙ ap ordering_reverse e

same_session : (a b : Bool) → bool_cmp a b ≡ Equal → a ≡ b
same_session true true e = refl
same_session false false e = refl
same_session true false e = absurd cc
same_session false true e = absurd cc

both_equal : (first second : Ordering) → ordering_then first second ≡ Equal → (first ≡ Equal) × (second ≡ Equal)
both_equal Less second e = absurd cc
both_equal Equal second e = (refl, e)
both_equal Greater second e = absurd cc

-- classes that tie are the same class
pub same_class : (a b : Class) → class_cmp a b ≡ Equal → a ≡ b
same_class a b e =
    let parts = both_equal (slice_cmp nat_cmp a.name b.name) (bool_cmp a.session b.session) e in
    let names : a.name ≡ b.name = (bytes_eq-Decides a.name b.name).0 (sym (is_eq-slice_cmp a.name b.name) ∙ ap is_eq parts.0) in
    let sessions : a.session ≡ b.session = same_session a.session b.session parts.1 in
    ap (λ (n : List ℕ). record { name = n; session = a.session }) names ∙ ap (λ (s : Bool). record { name = b.name; session = s }) sessions

-- ---- a class more

insert_less : (class other : Class) (others : List Class) → class_cmp class other ≡ Less → insert_class class (other ∷ others) ≡ class ∷ other ∷ others
insert_less class other others e = rw e refl

insert_equal : (class other : Class) (others : List Class) → class_cmp class other ≡ Equal → insert_class class (other ∷ others) ≡ other ∷ others
insert_equal class other others e = rw e refl

insert_greater : (class other : Class) (others : List Class) → class_cmp class other ≡ Greater → insert_class class (other ∷ others) ≡ other ∷ insert_class class others
insert_greater class other others e = rw e refl

-- two classes come in either order
insert_both : (a b : Class) (classes : List Class) → insert_class a (insert_class b classes) ≡ insert_class b (insert_class a classes)
insert_both a b [] = one (class_cmp a b) refl
  where
    one : (o : Ordering) → class_cmp a b ≡ o → insert_class a (b ∷ []) ≡ insert_class b (a ∷ [])
    one Less e = insert_less a b [] e ∙ sym (insert_greater b a [] (flip_less a b e))
    one Equal e = insert_equal a b [] e ∙ ap (λ (c : Class). c ∷ []) (sym (same_class a b e)) ∙ sym (insert_equal b a [] (flip_equal a b e))
    one Greater e = insert_greater a b [] e ∙ sym (insert_less b a [] (flip_greater a b e))
insert_both a b (c ∷ classes) = all (class_cmp a c) refl (class_cmp b c) refl (insert_both a b classes)
  where
    front : (o : Ordering) → class_cmp a b ≡ o → insert_class a (b ∷ c ∷ classes) ≡ insert_class b (a ∷ c ∷ classes) → insert_class a (b ∷ c ∷ classes) ≡ insert_class b (a ∷ c ∷ classes)
    front o e h = h

    less_less : (o : Ordering) → class_cmp a b ≡ o → class_cmp a c ≡ Less → class_cmp b c ≡ Less → insert_class a (b ∷ c ∷ classes) ≡ insert_class b (a ∷ c ∷ classes)
    less_less Less e i j = insert_less a b (c ∷ classes) e ∙ sym (insert_greater b a (c ∷ classes) (flip_less a b e) ∙ ap (λ (l : List Class). a ∷ l) (insert_less b c classes j))
    less_less Equal e i j =
        insert_equal a b (c ∷ classes) e ∙ ap (λ (x : Class). x ∷ c ∷ classes) (sym (same_class a b e)) ∙ sym (insert_equal b a (c ∷ classes) (flip_equal a b e))
    less_less Greater e i j = insert_greater a b (c ∷ classes) e ∙ ap (λ (l : List Class). b ∷ l) (insert_less a c classes i) ∙ sym (insert_less b a (c ∷ classes) (flip_greater a b e))

    all : (o : Ordering) → class_cmp a c ≡ o → (p : Ordering) → class_cmp b c ≡ p → insert_class a (insert_class b classes) ≡ insert_class b (insert_class a classes)
        → insert_class a (insert_class b (c ∷ classes)) ≡ insert_class b (insert_class a (c ∷ classes))
    all Less i Less j more = ap (insert_class a) (insert_less b c classes j) ∙ less_less (class_cmp a b) refl i j ∙ ap (insert_class b) (sym (insert_less a c classes i))
    all Less i Equal j more =
        let above : class_cmp b a ≡ Greater = class_order.congr b c a j ∙ flip_less a c i in
        ap (insert_class a) (insert_equal b c classes j) ∙ insert_less a c classes i
        ∙ sym (ap (insert_class b) (insert_less a c classes i) ∙ insert_greater b a (c ∷ classes) above ∙ ap (λ (l : List Class). a ∷ l) (insert_equal b c classes j))
    all Less i Greater j more =
        let above : class_cmp b a ≡ Greater = flip_less a b (class_order.trans a c b i (flip_greater b c j)) in
        ap (insert_class a) (insert_greater b c classes j) ∙ insert_less a c (insert_class b classes) i
        ∙ sym (ap (insert_class b) (insert_less a c classes i) ∙ insert_greater b a (c ∷ classes) above ∙ ap (λ (l : List Class). a ∷ l) (insert_greater b c classes j))
    all Equal i Less j more =
        let above : class_cmp a b ≡ Greater = class_order.congr a c b i ∙ flip_less b c j in
        ap (insert_class a) (insert_less b c classes j) ∙ insert_greater a b (c ∷ classes) above ∙ ap (λ (l : List Class). b ∷ l) (insert_equal a c classes i)
        ∙ sym (ap (insert_class b) (insert_equal a c classes i) ∙ insert_less b c classes j)
    all Equal i Equal j more =
        ap (insert_class a) (insert_equal b c classes j) ∙ insert_equal a c classes i ∙ sym (ap (insert_class b) (insert_equal a c classes i) ∙ insert_equal b c classes j)
    all Equal i Greater j more =
        ap (insert_class a) (insert_greater b c classes j) ∙ insert_equal a c (insert_class b classes) i ∙ sym (ap (insert_class b) (insert_equal a c classes i) ∙ insert_greater b c classes j)
    all Greater i Less j more =
        let above : class_cmp a b ≡ Greater = flip_less b a (class_order.trans b c a j (flip_greater a c i)) in
        ap (insert_class a) (insert_less b c classes j) ∙ insert_greater a b (c ∷ classes) above ∙ ap (λ (l : List Class). b ∷ l) (insert_greater a c classes i)
        ∙ sym (ap (insert_class b) (insert_greater a c classes i) ∙ insert_less b c (insert_class a classes) j)
    all Greater i Equal j more =
        ap (insert_class a) (insert_equal b c classes j) ∙ insert_greater a c classes i ∙ sym (ap (insert_class b) (insert_greater a c classes i) ∙ insert_equal b c (insert_class a classes) j)
    all Greater i Greater j more =
        ap (insert_class a) (insert_greater b c classes j) ∙ insert_greater a c (insert_class b classes) i ∙ ap (λ (l : List Class). c ∷ l) more
        ∙ sym (ap (insert_class b) (insert_greater a c classes i) ∙ insert_greater b c (insert_class a classes) j)

insert_past : (class : Class) (classes : List Class) (constraints : List Constraint) → classes_after (insert_class class classes) constraints ≡ insert_class class (classes_after classes constraints)
insert_past class classes [] = refl
insert_past class classes (c ∷ constraints) =
    ap (λ (l : List Class). classes_after l constraints) (insert_both (class_of c) class classes) ∙ insert_past class (insert_class (class_of c) classes) constraints

-- the classes of constraints one after another are those that the program has
pub classes_are : (constraints : List Constraint) → classes_after [] constraints ≡ classes_among constraints
classes_are [] = refl
classes_are (c ∷ constraints) = insert_past (class_of c) [] constraints ∙ ap (insert_class (class_of c)) (classes_are constraints)

pub classes_append : (classes : List Class) (first second : List Constraint) → classes_after classes (first ++ second) ≡ classes_after (classes_after classes first) second
classes_append classes [] second = refl
classes_append classes (c ∷ first) second = classes_append (insert_class (class_of c) classes) first second

pub words_append : (classes : List Class) (first second : List Constraint) → words_by classes (first ++ second) ≡ words_by classes first ++ words_by (classes_after classes first) second
words_append classes [] second = refl
words_append classes (c ∷ first) second =
    let own = word_if (not (has_class classes (class_of c))) c.name in
    ap (λ (l : List Word). own ++ l) (words_append (insert_class (class_of c) classes) first second)
    ∙ sym (append_assoc own (words_by (insert_class (class_of c) classes) first) (words_by (classes_after (insert_class (class_of c) classes) first) second))

-- ---- the words of new classes

tests_equal : (a b : Class) → is_eq (class_cmp a b) ≡ is_eq (class_cmp b a)
tests_equal a b = ap is_eq (class_order.antisymm a b) ∙ turned (class_cmp b a)
  where
    turned : (o : Ordering) → is_eq (ordering_reverse o) ≡ is_eq o
    turned Less = refl
    turned Equal = refl
    turned Greater = refl

-- a constraint is on a class where the two tie
pub is_on_tied : (class : Class) (constraint : Constraint) → is_on class constraint ≡ is_eq (class_cmp (class_of constraint) class)
is_on_tied class constraint = one (class_cmp (class_of constraint) class) refl
  where
    one : (o : Ordering) → class_cmp (class_of constraint) class ≡ o → is_on class constraint ≡ is_eq (class_cmp (class_of constraint) class)
    one Less e = rw e refl
    one Equal e = rw e refl
    one Greater e = rw e refl

or_turned : (a b c : Bool) → (a || (b || c)) ≡ (b || (a || c))
or_turned true true c = refl
or_turned true false c = refl
or_turned false b c = refl

or_twice : (a b : Bool) → (a || b) ≡ (a || (a || b))
or_twice true b = refl
or_twice false b = refl

-- after a class more those are there that were, and this one
has_more : (class new : Class) (classes : List Class) → has_class (insert_class new classes) class ≡ (is_eq (class_cmp class new) || has_class classes class)
has_more class new [] = refl
has_more class new (c ∷ classes) = one (class_cmp new c) refl (has_more class new classes)
  where
    one : (o : Ordering) → class_cmp new c ≡ o → has_class (insert_class new classes) class ≡ (is_eq (class_cmp class new) || has_class classes class)
        → has_class (insert_class new (c ∷ classes)) class ≡ (is_eq (class_cmp class new) || has_class (c ∷ classes) class)
    one Less e more = ap (λ (l : List Class). has_class l class) (insert_less new c classes e)
    one Equal e more =
        ap (λ (l : List Class). has_class l class) (insert_equal new c classes e)
        ∙ or_twice (is_eq (class_cmp class c)) (has_class classes class)
        ∙ ap (λ (x : Class). is_eq (class_cmp class x) || has_class (c ∷ classes) class) (sym (same_class new c e))
    one Greater e more =
        ap (λ (l : List Class). has_class l class) (insert_greater new c classes e)
        ∙ ap (λ (b : Bool). is_eq (class_cmp class c) || b) more
        ∙ or_turned (is_eq (class_cmp class c)) (is_eq (class_cmp class new)) (has_class classes class)

or_swap : (a b : Bool) → (a || b) ≡ (b || a)
or_swap true true = refl
or_swap true false = refl
or_swap false true = refl
or_swap false false = refl

words_from : (classes : List Class) (before constraints : List Constraint) → ((class : Class) → has_class classes class ≡ list_any (is_on class) before) → words_by classes constraints ≡ class_words_after before constraints
words_from classes before [] same = refl
words_from classes before (c ∷ constraints) same =
    ap (λ (b : Bool). word_if (not b) c.name ++ words_by (insert_class (class_of c) classes) constraints) (same (class_of c))
    ∙ ap (λ (l : List Word). word_if (not (list_any (is_on (class_of c)) before)) c.name ++ l) (words_from (insert_class (class_of c) classes) (before ++ c ∷ []) constraints more)
  where
    more : (class : Class) → has_class (insert_class (class_of c) classes) class ≡ list_any (is_on class) (before ++ c ∷ [])
    more class =
        has_more class (class_of c) classes
        ∙ or_swap (is_eq (class_cmp class (class_of c))) (has_class classes class)
        ∙ ap (λ (b : Bool). b || is_eq (class_cmp class (class_of c))) (same class)
        ∙ ap (λ (b : Bool). list_any (is_on class) before || b) (tests_equal class (class_of c) ∙ sym (is_on_tied class c) ∙ sym (or-false (is_on class c)))
        ∙ sym (list_any-append (is_on class) before (c ∷ []))

-- the words that the classes so far call new are those whose class no constraint before has
pub words_are : (constraints : List Constraint) → words_by [] constraints ≡ class_words_after [] constraints
words_are constraints = words_from [] [] constraints (λ class. refl)

-- ---- strict order

-- the first class is below each other one
abbrev AreAbove : Class → List Class → Type 0
AreAbove class classes = AllByRecursion (λ other. class_cmp class other ≡ Less) classes

abbrev pub AreInOrder : List Class → Type 0
AreInOrder [] = ⊤
AreInOrder (class ∷ classes) = AreAbove class classes × AreInOrder classes

pub sorted_in_order : (classes : List Class) → AreInOrder classes → IsStrictlySortedBy class_cmp classes
unfolding IsStrictlySortedBy
sorted_in_order [] order = tt
sorted_in_order (class ∷ classes) order = (order.0, sorted_in_order classes order.1)

pub in_order_sorted : (classes : List Class) → IsStrictlySortedBy class_cmp classes → AreInOrder classes
unfolding IsStrictlySortedBy
in_order_sorted [] order = tt
in_order_sorted (class ∷ classes) order = (order.0, in_order_sorted classes order.1)

above_less : (low class : Class) (classes : List Class) → class_cmp low class ≡ Less → AreAbove class classes → AreAbove low classes
above_less low class [] e above = tt
above_less low class (c ∷ classes) e above = (class_order.trans low class c e above.0, above_less low class classes e above.1)

above_more : (low class : Class) (classes : List Class) → class_cmp low class ≡ Less → AreAbove low classes → AreAbove low (insert_class class classes)
above_more low class [] e above = (e, tt)
above_more low class (c ∷ classes) e above = one (class_cmp class c) refl (above_more low class classes e above.1)
  where
    one : (o : Ordering) → class_cmp class c ≡ o → AreAbove low (insert_class class classes) → AreAbove low (insert_class class (c ∷ classes))
    one Less i more = rw i (e, above)
    one Equal i more = rw i above
    one Greater i more = rw i (above.0, more)

in_order_more : (class : Class) (classes : List Class) → AreInOrder classes → AreInOrder (insert_class class classes)
in_order_more class [] order = (tt, tt)
in_order_more class (c ∷ classes) order = one (class_cmp class c) refl (in_order_more class classes order.1)
  where
    one : (o : Ordering) → class_cmp class c ≡ o → AreInOrder (insert_class class classes) → AreInOrder (insert_class class (c ∷ classes))
    one Less i more = rw i ((i, above_less class c classes i order.0), order)
    one Equal i more = rw i order
    one Greater i more = rw i (above_more c class classes (flip_greater class c i) order.0, more)

pub classes_in_order : (constraints : List Constraint) → AreInOrder (classes_among constraints)
classes_in_order [] = tt
classes_in_order (c ∷ constraints) = in_order_more (class_of c) (classes_among constraints) (classes_in_order constraints)

above_get : (low : Class) (classes : List Class) (number : ℕ) (class : Class) → AreAbove low classes → slice_get classes number ≡ Some class → class_cmp low class ≡ Less
above_get low [] number class above e = absurd cc
above_get low (c ∷ classes) zero class above e = let same : c ≡ class = cc in rw (← same) above.0
above_get low (c ∷ classes) (suc number) class above e = above_get low classes number class above.1 e

-- so they are in canonical order, each once
pub canonical : (classes : List Class) → AreInOrder classes → AreCanonical classes
canonical [] order low high first second lt e f = absurd cc
canonical (c ∷ classes) order low zero first second lt e f = absurd (omega arith)
canonical (c ∷ classes) order zero (suc high) first second lt e f = let same : c ≡ first = cc in rw (← same) (above_get c classes high second order.0 f)
canonical (c ∷ classes) order (suc low) (suc high) first second lt e f = canonical classes order.1 low high first second (omega arith) e f

-- there are no more classes than constraints
few_more : (class : Class) (classes : List Class) → length (insert_class class classes) ≤ length classes + 1
few_more class [] = omega arith
few_more class (c ∷ classes) = one (class_cmp class c) refl (few_more class classes)
  where
    one : (o : Ordering) → class_cmp class c ≡ o → length (insert_class class classes) ≤ length classes + 1 → length (insert_class class (c ∷ classes)) ≤ length (c ∷ classes) + 1
    one Less i more = rw i (omega arith)
    one Equal i more = rw i (omega arith)
    one Greater i more = rw i (omega (arith, more))

pub few_classes : (constraints : List Constraint) → length (classes_among constraints) ≤ length constraints
few_classes [] = omega arith
few_classes (c ∷ constraints) = omega (arith, few_more (class_of c) (classes_among constraints), few_classes constraints)

-- ---- keys of classes in a set

module _ {K : Type 0} (view : K → Class) where
  -- how keys compare
  abbrev pub by_view : K → K → Ordering
  by_view a b = class_cmp (view a) (view b)

  pub insert_viewed : (key : K) (keys : List K) → map view (insert_key by_view keys key) ≡ insert_class (view key) (map view keys)
  insert_viewed key [] = refl
  insert_viewed key (k ∷ keys) = one (class_cmp (view key) (view k)) refl (insert_viewed key keys)
    where
      one : (o : Ordering) → class_cmp (view key) (view k) ≡ o → map view (insert_key by_view keys key) ≡ insert_class (view key) (map view keys) → map view (insert_key by_view (k ∷ keys) key) ≡ insert_class (view key) (map view (k ∷ keys))
      one Less e more = rw e refl
      one Equal e more = rw e refl
      one Greater e more = rw e (ap (λ (l : List Class). view k ∷ l) more)

  pub has_viewed : (key : K) (keys : List K) → list_any (is_at (by_view key)) keys ≡ has_class (map view keys) (view key)
  has_viewed key [] = refl
  has_viewed key (k ∷ keys) = ap (λ (b : Bool). is_eq (class_cmp (view key) (view k)) || b) (has_viewed key keys)

pub all_inserted : {K : Type 0} (cmp : K → K → Ordering) (P : K → Type 0) (key : K) (keys : List K) → P key → AllByRecursion P keys → AllByRecursion P (insert_key cmp keys key)
all_inserted cmp P key [] own each = (own, tt)
all_inserted cmp P key (k ∷ keys) own each = one (cmp key k) refl (all_inserted cmp P key keys own each.1)
  where
    one : (o : Ordering) → cmp key k ≡ o → AllByRecursion P (insert_key cmp keys key) → AllByRecursion P (insert_key cmp (k ∷ keys) key)
    one Less e more = rw e (own, each)
    one Equal e more = rw e each
    one Greater e more = rw e (each.0, more)
