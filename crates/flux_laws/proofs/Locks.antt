-- In numbered programs without cycles, the holds that are counted out class by class are the program's locks.
use Rattle.std.proofs.Common.{◌≡◌, ◌<◌, ◌≤◌, ◌+◌, inl, inr, ◌⊎◌, ℕ, zero, suc, Bool, true, false, ◌==◌, nat_le, ◌&&◌, if◌then◌else◌, List, [], ◌∷◌, ◌++◌, length, refl, sym, subst, ◌∙◌, ap, arith}
use Rattle.std.specs.List.{slice_get, flat_map, list_any, Contains, AllByRecursion}
use Rattle.std.proofs.lemmas.Bool.{eqb-true, eq-eqb, leb-true, le-leb, cases_eq, cases_lt, or_cases, or_left, or_right, and_parts, and_from, true≢false}
use Rattle.flux_values.specs.declared.answers.Mode.{Mode}
use Rattle.flux_values.specs.declared.answers.Mode.TheVariants.{Reader, Writer}
use Rattle.flux_model.specs.declared.programs.Node.{Node}
use Rattle.flux_model.specs.declared.programs.NodeNo.{NodeNo}
use Rattle.flux_model.specs.declared.programs.ClassNo.{ClassNo}
use Rattle.flux_model.specs.declared.programs.Hold.{Hold}
use Rattle.flux_model.specs.declared.programs.Program.{Program}
use Rattle.flux_model.specs.Modes.{at_least}
use Rattle.flux_model.specs.Children.{IsIn, IsBelow}
use Rattle.flux_model.specs.Numbered.{IsNumbered, AreOnClasses}
use Rattle.flux_model.specs.Ordering.{HasCycle}
use Rattle.flux_model.specs.Locks.{declared, declared_on, HasClass, DeclaresBelow, DeclaresPast, IsLocked, DeclaresHere, IsGreatest, AreLocksOf}
use Rattle.flux_model.proofs.RisingHolds.{Rises, rising_from}
use Rattle.flux_laws.specs.Hoisted.{below_of, declared_below, has_class, has_past, is_writer, has_writer, is_held, mode_held, held_one, held_from, locks_of, LocksAreThere}
use Rattle.flux_laws.proofs.Members.{In, in-from_contains, contains-from_in, in-left, in-right, in-either}
use Rattle.flux_laws.proofs.BelowCounted.{counted-below, below-counted}

-- ---- the tests of holds

-- a test passes somewhere exactly where it passes on an element
any-some : {X : Type 0} (test : X → Bool) (xs : List X) → list_any test xs ≡ true → (x : X) × In x xs × (test x ≡ true)
any-some {X} test [] any = absurd cc
any-some {X} test (x ∷ xs) any = by (any-some test xs) (or_cases (test x) (list_any test xs) any)
  where
    by : (list_any test xs ≡ true → (y : X) × In y xs × (test y ≡ true)) → (test x ≡ true) ⊎ (list_any test xs ≡ true) → (y : X) × In y (x ∷ xs) × (test y ≡ true)
    by others (inl own) = (x, inl refl, own)
    by others (inr more) = let (y, is, passes) = others more in (y, inr is, passes)

any-from : {X : Type 0} (test : X → Bool) (xs : List X) (x : X) → In x xs → test x ≡ true → list_any test xs ≡ true
any-from test [] x is passes = absurd is
any-from test (y ∷ xs) x (inl same) passes = or_left (test y) (list_any test xs) (ap test same ∙ passes)
any-from test (y ∷ xs) x (inr is) passes = or_right (test y) (list_any test xs) (any-from test xs x is passes)

-- a hold on a class in a mode
abbrev pub hold_on : ℕ → Mode → Hold
hold_on class mode = record { class = record { 0 = class }; mode = mode }

-- a hold on the class is among the holds
class-some : (class : ℕ) (holds : List Hold) → has_class class holds ≡ true → (mode : Mode) × In (hold_on class mode) holds
class-some class holds has =
    let (h, is, same) = any-some (λ hold. hold.class.0 == class) holds has in
    (h.mode, subst (λ (c : ℕ). In (hold_on c h.mode) holds) (eqb-true h.class.0 class same) is)

class-from : (class : ℕ) (mode : Mode) (holds : List Hold) → In (hold_on class mode) holds → has_class class holds ≡ true
class-from class mode holds is = any-from (λ hold. hold.class.0 == class) holds (hold_on class mode) is (eq-eqb class class refl)

past-some : (class : ℕ) (holds : List Hold) → has_past class holds ≡ true → (past : Hold) × In past holds × (class ≤ past.class.0)
past-some class holds has =
    let (h, is, le) = any-some (λ hold. nat_le class hold.class.0) holds has in (h, is, leb-true class h.class.0 le)

past-from : (class : ℕ) (holds : List Hold) (past : Hold) → In past holds → class ≤ past.class.0 → has_past class holds ≡ true
past-from class holds past is le = any-from (λ hold. nat_le class hold.class.0) holds past is (le-leb class past.class.0 le)

writer-is : (mode : Mode) → is_writer mode ≡ true → mode ≡ Writer
writer-is Reader e = absurd cc
writer-is Writer e = refl

writer-some : (class : ℕ) (holds : List Hold) → has_writer class holds ≡ true → In (hold_on class Writer) holds
writer-some class holds has = by (any-some (λ hold. hold.class.0 == class && is_writer hold.mode) holds has)
  where
    by : (h : Hold) × In h holds × ((h.class.0 == class && is_writer h.mode) ≡ true) → In (hold_on class Writer) holds
    by (h, is, both) =
        let (same, writes) = and_parts (h.class.0 == class) (is_writer h.mode) both in
        let mine = subst (λ (c : ℕ). In (hold_on c h.mode) holds) (eqb-true h.class.0 class same) is in
        subst (λ (m : Mode). In (hold_on class m) holds) (writer-is h.mode writes) mine

writer-from : (class : ℕ) (holds : List Hold) → In (hold_on class Writer) holds → has_writer class holds ≡ true
writer-from class holds is =
    any-from (λ hold. hold.class.0 == class && is_writer hold.mode) holds (hold_on class Writer) is (and_from (class == class) true (eq-eqb class class refl) refl)

-- ---- what is declared below

declared-has : (p : Program) (nodes : List NodeNo) (m : ℕ) (h : Hold) → IsIn m nodes → In h (declared p m) → In h (flat_map (λ node. declared p node.0) nodes)
declared-has p [] m h is own = absurd is
declared-has p (n ∷ nodes) m h (inl same) own =
    in-left (declared p n.0) (flat_map (λ node. declared p node.0) nodes) h (subst (λ (k : ℕ). In h (declared p k)) same own)
declared-has p (n ∷ nodes) m h (inr is) own =
    in-right (declared p n.0) (flat_map (λ node. declared p node.0) nodes) h (declared-has p nodes m h is own)

declared-only : (p : Program) (nodes : List NodeNo) (h : Hold) → In h (flat_map (λ node. declared p node.0) nodes) → (m : ℕ) × IsIn m nodes × In h (declared p m)
declared-only p [] h is = absurd is
declared-only p (n ∷ nodes) h is = by (declared-only p nodes h) (in-either (declared p n.0) (flat_map (λ node. declared p node.0) nodes) h is)
  where
    by : (In h (flat_map (λ node. declared p node.0) nodes) → (m : ℕ) × IsIn m nodes × In h (declared p m)) → In h (declared p n.0) ⊎ In h (flat_map (λ node. declared p node.0) nodes) → (m : ℕ) × IsIn m (n ∷ nodes) × In h (declared p m)
    by others (inl own) = (n.0, inl refl, own)
    by others (inr more) = let (m, is_m, own) = others more in (m, inr is_m, own)

-- ---- the holds, class by class

-- what a hold that is counted out is, of so many classes from one on
abbrev pub IsCounted : Program → ℕ → ℕ → ℕ → Hold → Type 0
IsCounted p number class count h =
    (class ≤ h.class.0) × (h.class.0 < class + count) × (is_held p number h.class.0 ≡ true) × (h.mode ≡ mode_held p number h.class.0)

one-only : (p : Program) (number class : ℕ) (h : Hold) → In h (held_one p number class) → (h ≡ hold_on class (mode_held p number class)) × (is_held p number class ≡ true)
one-only p number class h is = by (is_held p number class) refl is
  where
    by : (b : Bool) → is_held p number class ≡ b → In h (if b then hold_on class (mode_held p number class) ∷ [] else [])
        → (h ≡ hold_on class (mode_held p number class)) × (is_held p number class ≡ true)
    by true held (inl same) = (sym same, held)
    by true held (inr is) = absurd is
    by false held is = absurd is

one-has : (p : Program) (number class : ℕ) → is_held p number class ≡ true → In (hold_on class (mode_held p number class)) (held_one p number class)
one-has p number class held =
    subst (λ (b : Bool). In (hold_on class (mode_held p number class)) (if b then hold_on class (mode_held p number class) ∷ [] else [])) (sym held) (inl refl)

from-has : (p : Program) (number class count wanted : ℕ) → class ≤ wanted → wanted < class + count → is_held p number wanted ≡ true
    → In (hold_on wanted (mode_held p number wanted)) (held_from p number class count)
from-has p number class zero wanted least lt held = absurd (omega (arith, least, lt))
from-has p number class (suc count) wanted least lt held = by (λ later. from-has p number (class + 1) count wanted later (omega (arith, lt)) held) (cases_eq class wanted)
  where
    by : (class + 1 ≤ wanted → In (hold_on wanted (mode_held p number wanted)) (held_from p number (class + 1) count)) → (class ≡ wanted) ⊎ (class ≡ wanted → ⊥) → In (hold_on wanted (mode_held p number wanted)) (held_one p number class ++ held_from p number (class + 1) count)
    by others (inl same) = in-left (held_one p number class) (held_from p number (class + 1) count) (hold_on wanted (mode_held p number wanted))
        (subst (λ (c : ℕ). In (hold_on wanted (mode_held p number wanted)) (held_one p number c)) (sym same) (one-has p number wanted held))
    by others (inr apart) = in-right (held_one p number class) (held_from p number (class + 1) count) (hold_on wanted (mode_held p number wanted)) (others (later apart))
      where
        later : (class ≡ wanted → ⊥) → class + 1 ≤ wanted
        later apart = elim (cases_lt class wanted) [
          | inl less ↦ omega (arith, less)
          | inr le ↦ absurd (apart (omega (arith, least, le)))
        ]

from-only : (p : Program) (number class count : ℕ) (h : Hold) → In h (held_from p number class count) → IsCounted p number class count h
from-only p number class zero h is = absurd is
from-only p number class (suc count) h is = by (from-only p number (class + 1) count h) (in-either (held_one p number class) (held_from p number (class + 1) count) h is)
  where
    own : (h ≡ hold_on class (mode_held p number class)) → is_held p number class ≡ true → IsCounted p number class (suc count) h
    own same held = subst (IsCounted p number class (suc count)) (sym same) (omega arith, omega arith, held, refl)

    by : (In h (held_from p number (class + 1) count) → IsCounted p number (class + 1) count h) → In h (held_one p number class) ⊎ In h (held_from p number (class + 1) count)
        → IsCounted p number class (suc count) h
    by others (inl one) = let (same, held) = one-only p number class h one in own same held
    by others (inr more) =
        let (least, lt, held, mode) = others more in (omega (arith, least), omega (arith, lt), held, mode)

from-rises : (p : Program) (number class count : ℕ) → Rises (held_from p number class count)
unfolding Rises
from-rises p number class zero = tt
from-rises p number class (suc count) = by (from-rises p number (class + 1) count) (is_held p number class)
  where
    behind : (x : Hold) → Contains (held_from p number (class + 1) count) x → class < x.class.0
    behind x c = let counted = from-only p number (class + 1) count x (in-from_contains (held_from p number (class + 1) count) x c) in
        let least = counted.0 in omega (arith, least)

    by : Rises (held_from p number (class + 1) count) → (b : Bool) → Rises ((if b then hold_on class (mode_held p number class) ∷ [] else []) ++ held_from p number (class + 1) count)
    by others true = (behind, others)
    by others false = others

-- ---- the locks

-- in a numbered program what is declared is on one of its classes
declared-within : (p : Program) → IsNumbered p → (number : ℕ) (h : Hold) → In h (declared p number) → h.class.0 < length p.classes
declared-within p numbered number h is = at p.nodes number numbered.classes is
  where
    among : (holds : List Hold) → AreOnClasses (length p.classes) holds → In h holds → h.class.0 < length p.classes
    among [] all is = absurd is
    among (g ∷ holds) (own, all) (inl same) = subst (λ (x : Hold). x.class.0 < length p.classes) same own
    among (g ∷ holds) (own, all) (inr is) = among holds all is

    at : (nodes : List Node) (number : ℕ) → AllByRecursion (λ node. AreOnClasses (length p.classes) node.declared) nodes
        → In h (declared_on (slice_get nodes number)) → h.class.0 < length p.classes
    at [] number all is = absurd is
    at (node ∷ nodes) zero (own, all) is = among node.declared own is
    at (node ∷ nodes) (suc number) (own, all) is = at nodes number all is

module _ (p : Program) (numbered : IsNumbered p) (acyclic : HasCycle p.nodes → ⊥) (number : ℕ) where
  below-in : (other : ℕ) (h : Hold) → IsBelow p number other → Contains (declared p other) h → In h (declared_below p number)
  below-in other h below declares =
      declared-has p (below_of p number) other h (below-counted p numbered acyclic number other below) (in-from_contains (declared p other) h declares)

  in-below : (h : Hold) → In h (declared_below p number) → (other : ℕ) × IsBelow p number other × Contains (declared p other) h
  in-below h is =
      let (m, among, own) = declared-only p (below_of p number) h is in
      (m, counted-below p number m among, contains-from_in (declared p m) h own)

  here-in : (h : Hold) → DeclaresHere p number h → In h (declared p number ++ declared_below p number)
  here-in h (inl own) = in-left (declared p number) (declared_below p number) h (in-from_contains (declared p number) h own)
  here-in h (inr (other, below, declares)) = in-right (declared p number) (declared_below p number) h (below-in other h below declares)

  in-here : (h : Hold) → In h (declared p number ++ declared_below p number) → DeclaresHere p number h
  in-here h is = by (in-either (declared p number) (declared_below p number) h is)
    where
      by : In h (declared p number) ⊎ In h (declared_below p number) → DeclaresHere p number h
      by (inl own) = inl (contains-from_in (declared p number) h own)
      by (inr below) = inr (in-below h below)

  -- the test of what is held
  held-from_locked : (class : ClassNo) → IsLocked p number class → is_held p number class.0 ≡ true
  held-from_locked class (inl (mode, own)) =
      or_left (has_class class.0 (declared p number)) (has_class class.0 (declared_below p number) && has_past class.0 (declared p number))
      (class-from class.0 mode (declared p number) (in-from_contains (declared p number) (hold_on class.0 mode) own))
  held-from_locked class (inr (below, past)) =
      let (mode, declares) = below.declares in
      let (past_mode, own) = past.declares in
      or_right (has_class class.0 (declared p number)) (has_class class.0 (declared_below p number) && has_past class.0 (declared p number))
      (and_from (has_class class.0 (declared_below p number)) (has_past class.0 (declared p number))
      (class-from class.0 mode (declared_below p number) (below-in below.node (hold_on class.0 mode) below.below declares))
      (past-from class.0 (declared p number) (hold_on past.past.0 past_mode) (in-from_contains (declared p number) (hold_on past.past.0 past_mode) own) past.least))

  locked-from_held : (class : ClassNo) → is_held p number class.0 ≡ true → IsLocked p number class
  locked-from_held class held =
      by (or_cases (has_class class.0 (declared p number)) (has_class class.0 (declared_below p number) && has_past class.0 (declared p number)) held)
    where
      own : (mode : Mode) × In (hold_on class.0 mode) (declared p number) → HasClass (declared p number) class
      own (mode, is) = (mode, contains-from_in (declared p number) (hold_on class.0 mode) is)

      under : (mode : Mode) × In (hold_on class.0 mode) (declared_below p number) → DeclaresBelow p number class
      under (mode, is) = let (other, below, declares) = in-below (hold_on class.0 mode) is in record { node = other; below = below; declares = (mode, declares) }

      past : (past : Hold) × In past (declared p number) × (class.0 ≤ past.class.0) → DeclaresPast p number class
      past (h, is, le) = record { past = h.class; declares = (h.mode, contains-from_in (declared p number) h is); least = le }

      by : (has_class class.0 (declared p number) ≡ true) ⊎ ((has_class class.0 (declared_below p number) && has_past class.0 (declared p number)) ≡ true) → IsLocked p number class
      by (inl has) = inl (own (class-some class.0 (declared p number) has))
      by (inr both) =
          let (below, further) = and_parts (has_class class.0 (declared_below p number)) (has_past class.0 (declared p number)) both in
          inr (under (class-some class.0 (declared_below p number) below), past (past-some class.0 (declared p number) further))

  -- what is locked is one of the classes
  locked-within : (class : ClassNo) → IsLocked p number class → class.0 < length p.classes
  locked-within class (inl (mode, own)) =
      declared-within p numbered number (hold_on class.0 mode) (in-from_contains (declared p number) (hold_on class.0 mode) own)
  locked-within class (inr (below, past)) =
      let (mode, declares) = below.declares in
      declared-within p numbered below.node (hold_on class.0 mode) (in-from_contains (declared p below.node) (hold_on class.0 mode) declares)

  -- what is locked is declared in some mode
  locked-here : (class : ClassNo) → IsLocked p number class → (mode : Mode) × DeclaresHere p number (hold_on class.0 mode)
  locked-here class (inl (mode, own)) = (mode, inl own)
  locked-here class (inr (below, past)) = let (mode, declares) = below.declares in (mode, inr (below.node, below.below, declares))

  greatest : (class : ClassNo) → IsLocked p number class → IsGreatest p number (hold_on class.0 (mode_held p number class.0))
  greatest class locked = by (has_writer class.0 (declared p number ++ declared_below p number)) refl
    where
      reader : (mode : Mode) → has_writer class.0 (declared p number ++ declared_below p number) ≡ false → DeclaresHere p number (hold_on class.0 mode) → mode ≡ Reader
      reader Reader none here = refl
      reader Writer none here =
          let some = writer-from class.0 (declared p number ++ declared_below p number) (here-in (hold_on class.0 Writer) here) in
          absurd (true≢false (sym some ∙ none))

      by : (writes : Bool) → has_writer class.0 (declared p number ++ declared_below p number) ≡ writes
          → IsGreatest p number (hold_on class.0 (if writes then Writer else Reader))
      by true some = record {
        declares = in-here (hold_on class.0 Writer) (writer-some class.0 (declared p number ++ declared_below p number) some);
        greatest = λ mode here. refl;
      }
      by false none = record {
        declares = let (mode, here) = locked-here class locked in subst (λ (m : Mode). DeclaresHere p number (hold_on class.0 m)) (reader mode none here) here;
        greatest = λ mode here. ap (at_least Reader) (reader mode none here);
      }

  counted : (h : Hold) → Contains (locks_of p number) h → IsCounted p number 0 (length p.classes) h
  counted h c = from-only p number 0 (length p.classes) h (in-from_contains (locks_of p number) h c)

  has : (class : ClassNo) → IsLocked p number class → HasClass (locks_of p number) class
  has class locked = (
    mode_held p number class.0,
    let lt = locked-within class locked in
        contains-from_in (locks_of p number) (hold_on class.0 (mode_held p number class.0))
        (from-has p number 0 (length p.classes) class.0 (omega arith) (omega (arith, lt)) (held-from_locked class locked)),
  )

  only : (h : Hold) → Contains (locks_of p number) h → IsLocked p number h.class
  only h c = let (least, lt, held, mode) = counted h c in locked-from_held h.class held

  modes : (h : Hold) → Contains (locks_of p number) h → IsGreatest p number h
  modes h c =
      let (least, lt, held, mode) = counted h c in
      subst (λ (m : Mode). IsGreatest p number (hold_on h.class.0 m)) (sym mode) (greatest h.class (locked-from_held h.class held))

  pub locks-of_node : AreLocksOf p number (locks_of p number)
  locks-of_node = record {
    rising = rising_from (locks_of p number) (from-rises p number 0 (length p.classes));
    has = has;
    only = only;
    modes = modes;
  }

pub locks_are_there : LocksAreThere
locks_are_there p numbered acyclic number = locks-of_node p numbered acyclic number
