-- The holds of a set up to a class, and its greatest class.
use Rattle.std.proofs.Common.{◌≡◌, ◌<◌, ◌≤◌, ◌-◌, ℕ, true, false, Bool, cond, ◌⊎◌, inl, inr, List, [], ◌∷◌, length, get_or, slice_get, Some, refl, sym, ap, subst, ◌∙◌, arith}
use Rattle.std.specs.List.{Contains, filter}
use Rattle.std.proofs.lemmas.Bool.{cases_order}
use Rattle.std.proofs.lemmas.Bool.Decides.{nat_tests}
use Rattle.std.proofs.lemmas.Option.{slice_get-get_or}
use Rattle.flux_model.specs.declared.programs.ClassNo.{ClassNo}
use Rattle.flux_model.specs.declared.programs.Hold.{Hold}
use Rattle.flux_model.specs.Locks.{AreRising}
use Rattle.flux_constraints.specs.ClassSets.{AreUpTo, IsGreatestOf}
use Rattle.flux_constraints.specs.steps.Places.{is_up_to}
use Rattle.flux_model.proofs.RisingHolds.{contains_first, contains_later, contains_cases, contains_none, Rises, rises_from, rising_from}

module _ {X : Type 0} (test : X → Bool) where
  only_on : (x : X) (xs : List X) (y : X) (b : Bool) → test x ≡ b → (Contains (filter test xs) y → Contains xs y × (test y ≡ true))
      → Contains (cond b (x ∷ filter test xs) (filter test xs)) y → Contains (x ∷ xs) y × (test y ≡ true)
  only_on x xs y true e rest more = elim (contains_cases x (filter test xs) y more) [
    | inl same ↦ (subst (Contains (x ∷ xs)) (sym same) (contains_first x xs), ap test same ∙ e)
    | inr later ↦ let found = rest later in (contains_later x xs y found.0, found.1)
  ]
  only_on x xs y false e rest more = let found = rest more in (contains_later x xs y found.0, found.1)

  pub filter_only : (xs : List X) (y : X) → Contains (filter test xs) y → Contains xs y × (test y ≡ true)
  filter_only [] y c = absurd (contains_none y c)
  filter_only (x ∷ xs) y c = only_on x xs y (test x) refl (filter_only xs y) c

  has_on : (x : X) (xs : List X) (y : X) (b : Bool) → test x ≡ b → test y ≡ true → (Contains xs y → Contains (filter test xs) y)
      → (y ≡ x) ⊎ Contains xs y → Contains (cond b (x ∷ filter test xs) (filter test xs)) y
  has_on x xs y true e passes rest (inl same) = subst (Contains (x ∷ filter test xs)) (sym same) (contains_first x (filter test xs))
  has_on x xs y true e passes rest (inr later) = contains_later x (filter test xs) y (rest later)
  has_on x xs y false e passes rest (inl same) = absurd (let no : test y ≡ false = ap test same ∙ e in cc)
  has_on x xs y false e passes rest (inr later) = rest later

  pub filter_has : (xs : List X) (y : X) → Contains xs y → test y ≡ true → Contains (filter test xs) y
  filter_has [] y c passes = absurd (contains_none y c)
  filter_has (x ∷ xs) y c passes = has_on x xs y (test x) refl passes (λ later. filter_has xs y later passes) (contains_cases x xs y c)

rises_on : (test : Hold → Bool) (h : Hold) (hs : List Hold) (b : Bool) → ((x : Hold) → Contains hs x → h.class.0 < x.class.0) → Rises (filter test hs) → Rises (cond b (h ∷ filter test hs) (filter test hs))
unfolding Rises
rises_on test h hs true first rest = (λ x c. first x (filter_only test hs x c).0, rest)
rises_on test h hs false first rest = rest

filter_rises : (test : Hold → Bool) (hs : List Hold) → Rises hs → Rises (filter test hs)
unfolding Rises
filter_rises test [] rises = tt
filter_rises test (h ∷ hs) rises = rises_on test h hs (test h) rises.0 (filter_rises test hs rises.1)

pub filter_rising : (test : Hold → Bool) (hs : List Hold) → AreRising hs → AreRising (filter test hs)
filter_rising test hs are = rising_from (filter test hs) (filter_rises test hs (rises_from hs are))

up_to_low : (class : ClassNo) (h : Hold) → is_up_to class h ≡ true → h.class.0 ≤ class.0
up_to_low class h e = grind (arith, nat_tests, e)

low_up_to : (class : ClassNo) (h : Hold) → h.class.0 ≤ class.0 → is_up_to class h ≡ true
low_up_to class h le = grind (arith, nat_tests, le)

pub filter_up_to : (class : ClassNo) (hs : List Hold) → AreUpTo hs class (filter (is_up_to class) hs)
filter_up_to class hs = record {
  has = λ h c le. filter_has (is_up_to class) hs h c (low_up_to class h le);
  within = λ h c. (filter_only (is_up_to class) hs h c).0;
  low = λ h c. up_to_low class h (filter_only (is_up_to class) hs h c).1;
}

-- ---- the last class

pub last_greatest : (hs : List Hold) (last : Hold) → AreRising hs → slice_get hs (length hs - 1) ≡ Some last → 0 < length hs → IsGreatestOf hs last.class
last_greatest hs last are at more = record {
  has = (last.mode, (length hs - 1, omega arith, read));
  greatest = λ h c. elim (cases_order c.0 (length hs - 1)) [
    | inl e ↦ let same : h ≡ last = sym c.2 ∙ ap (λ (k : ℕ). get_or hs k h) e ∙ read_any h in subst (λ (x : Hold). x.class.0 ≤ last.class.0) (sym same) (omega arith)
    | inr (inl lt) ↦ let less = are c.0 (length hs - 1) h last lt (slice_get-get_or hs c.0 h c.1 ∙ ap Some c.2) at in omega (arith, less)
    | inr (inr gt) ↦ let lt : c.0 < length hs = c.1 in absurd (omega arith)
  ];
}
  where
    read_any : (d : Hold) → get_or hs (length hs - 1) d ≡ last
    read_any d =
        let e : Some (get_or hs (length hs - 1) d) ≡ Some last = sym (slice_get-get_or hs (length hs - 1) d (omega arith)) ∙ at in cc

    read : get_or hs (length hs - 1) last ≡ last
    read = read_any last
