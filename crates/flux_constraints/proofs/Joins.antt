-- What a set has after a hold joined it.
use Rattle.std.proofs.Common.{◌≡◌, ◌<◌, ◌≤◌, ℕ, zero, suc, true, false, ◌⊎◌, inl, inr, List, [], ◌∷◌, length, get_or, set, refl, sym, ap, subst, ◌∙◌, arith}
use Rattle.std.specs.List.{Contains, insert}
use Rattle.std.proofs.lemmas.Bool.{cases_order}
use Rattle.std.proofs.lemmas.List.Elements.{Contains-get_or}
use Rattle.flux_values.specs.declared.answers.Mode.{Mode}
use Rattle.flux_values.specs.declared.answers.Mode.TheVariants.{Reader, Writer}
use Rattle.flux_model.specs.declared.programs.ClassNo.{ClassNo}
use Rattle.flux_model.specs.declared.programs.Hold.{Hold}
use Rattle.flux_model.specs.Modes.{at_least}
use Rattle.flux_model.specs.Locks.{AreRising, HasAtLeast}
use Rattle.flux_constraints.specs.ClassSets.{IsJoined}
use Rattle.flux_constraints.specs.steps.Places.{IsThere, IsGap}
use Rattle.flux_model.proofs.RisingHolds.{contains_first, contains_later, contains_cases, contains_none, Rises, rises_from, rising_from, rising_once}

-- ---- modes

pub at_least_itself : (m : Mode) → at_least m m ≡ true
at_least_itself Reader = refl
at_least_itself Writer = refl

pub at_least_other : (m n : Mode) → at_least m n ≡ false → at_least n m ≡ true
at_least_other Reader Reader e = absurd cc
at_least_other Reader Writer e = refl
at_least_other Writer n e = absurd cc

-- what is there is there in at least its mode
pub has_itself : (hs : List Hold) (h : Hold) → Contains hs h → HasAtLeast hs h
has_itself hs h c = record { mode = h.mode; has = c; enough = at_least_itself h.mode }

-- by a hold on the same class
pub has_by : (hs : List Hold) (h other : Hold) → Contains hs other → other.class ≡ h.class → at_least other.mode h.mode ≡ true → HasAtLeast hs h
has_by hs h other c same enough = record {
  mode = other.mode;
  has = subst (λ (k : ClassNo). Contains hs (record { class = k; mode = other.mode })) same c;
  enough = enough;
}

pub same_class : (a b : ClassNo) → a.0 ≡ b.0 → a ≡ b
same_class a b e = ap (λ (n : ℕ). record { 0 = n }) e

-- ---- a hold put in between

insert_cases : (hs : List Hold) (p : ℕ) (x y : Hold) → Contains (insert hs p x) y → Contains hs y ⊎ (y ≡ x)
insert_cases [] zero x y c = elim (contains_cases x [] y c) [ inl e ↦ inr e | inr old ↦ inl old ]
insert_cases [] (suc p) x y c = elim (contains_cases x [] y c) [ inl e ↦ inr e | inr old ↦ inl old ]
insert_cases (h ∷ hs) zero x y c = elim (contains_cases x (h ∷ hs) y c) [ inl e ↦ inr e | inr old ↦ inl old ]
insert_cases (h ∷ hs) (suc p) x y c = elim (contains_cases h (insert hs p x) y c) [
  | inl e ↦ inl (subst (Contains (h ∷ hs)) (sym e) (contains_first h hs))
  | inr more ↦ elim (insert_cases hs p x y more) [ inl old ↦ inl (contains_later h hs y old) | inr e ↦ inr e ]
]

insert_new : (hs : List Hold) (p : ℕ) (x : Hold) → Contains (insert hs p x) x
insert_new [] zero x = contains_first x []
insert_new [] (suc p) x = contains_first x []
insert_new (h ∷ hs) zero x = contains_first x (h ∷ hs)
insert_new (h ∷ hs) (suc p) x = contains_later h (insert hs p x) x (insert_new hs p x)

insert_old : (hs : List Hold) (p : ℕ) (x y : Hold) → Contains hs y → Contains (insert hs p x) y
insert_old [] p x y c = absurd (contains_none y c)
insert_old (h ∷ hs) zero x y c = contains_later x (h ∷ hs) y c
insert_old (h ∷ hs) (suc p) x y c = elim (contains_cases h hs y c) [
  | inl e ↦ subst (Contains (h ∷ insert hs p x)) (sym e) (contains_first h (insert hs p x))
  | inr old ↦ contains_later h (insert hs p x) y (insert_old hs p x y old)
]

gap_rest : (h : Hold) (hs : List Hold) (class : ClassNo) (p : ℕ) → IsGap (h ∷ hs) class (suc p) → IsGap hs class p
gap_rest h hs class p g = record {
  within = omega (arith, g.within);
  before = λ k d lt. g.before (suc k) d (omega arith);
  after = λ k d le lt. g.after (suc k) d (omega arith) (omega arith);
}

insert_rises : (hs : List Hold) (p : ℕ) (x : Hold) → Rises hs → IsGap hs x.class p → Rises (insert hs p x)
unfolding Rises
insert_rises [] zero x rises g = (λ y c. absurd (contains_none y c), tt)
insert_rises [] (suc p) x rises g = absurd (omega (arith, g.within))
insert_rises (h ∷ hs) zero x rises g =
    (λ y c. subst (λ (z : Hold). x.class.0 < z.class.0) c.2 (g.after c.0 y (omega arith) c.1), rises)
insert_rises (h ∷ hs) (suc p) x rises g = (
  λ y c. elim (insert_cases hs p x y c) [
    | inl old ↦ rises.0 y old
    | inr e ↦ subst (λ (z : Hold). h.class.0 < z.class.0) (sym e) (g.before 0 h (omega arith))
  ],
  insert_rises hs p x rises.1 (gap_rest h hs x.class p g),
)

pub inserted : (hs : List Hold) (p : ℕ) (x : Hold) → AreRising hs → IsGap hs x.class p → AreRising (insert hs p x)
inserted hs p x are g = rising_from (insert hs p x) (insert_rises hs p x (rises_from hs are) g)

pub insert_joined : (hs : List Hold) (p : ℕ) (x : Hold) → IsJoined hs x (insert hs p x)
insert_joined hs p x = record {
  kept = λ old c. has_itself (insert hs p x) old (insert_old hs p x old c);
  joined = has_itself (insert hs p x) x (insert_new hs p x);
  only = λ new c. insert_cases hs p x new c;
}

-- ---- a hold put in another's place

set_cases : (hs : List Hold) (p : ℕ) (x y : Hold) → Contains (set hs p x) y → Contains hs y ⊎ (y ≡ x)
set_cases [] p x y c = absurd (contains_none y c)
set_cases (h ∷ hs) zero x y c = elim (contains_cases x hs y c) [ inl e ↦ inr e | inr old ↦ inl (contains_later h hs y old) ]
set_cases (h ∷ hs) (suc p) x y c = elim (contains_cases h (set hs p x) y c) [
  | inl e ↦ inl (subst (Contains (h ∷ hs)) (sym e) (contains_first h hs))
  | inr more ↦ elim (set_cases hs p x y more) [ inl old ↦ inl (contains_later h hs y old) | inr e ↦ inr e ]
]

set_new : (hs : List Hold) (p : ℕ) (x : Hold) → p < length hs → Contains (set hs p x) x
set_new [] p x lt = absurd (omega arith)
set_new (h ∷ hs) zero x lt = contains_first x hs
set_new (h ∷ hs) (suc p) x lt = contains_later h (set hs p x) x (set_new hs p x (omega arith))

set_old : (hs : List Hold) (p : ℕ) (x y d : Hold) → Contains hs y → Contains (set hs p x) y ⊎ (y ≡ get_or hs p d)
set_old [] p x y d c = absurd (contains_none y c)
set_old (h ∷ hs) zero x y d c = elim (contains_cases h hs y c) [ inl e ↦ inr e | inr old ↦ inl (contains_later x hs y old) ]
set_old (h ∷ hs) (suc p) x y d c = elim (contains_cases h hs y c) [
  | inl e ↦ inl (subst (Contains (h ∷ set hs p x)) (sym e) (contains_first h (set hs p x)))
  | inr old ↦ elim (set_old hs p x y d old) [ inl more ↦ inl (contains_later h (set hs p x) y more) | inr e ↦ inr e ]
]

set_rises : (hs : List Hold) (p : ℕ) (x : Hold) → Rises hs → IsThere hs x.class p → Rises (set hs p x)
unfolding Rises
set_rises [] p x rises t = tt
set_rises (h ∷ hs) zero x rises t =
    let same : h.class.0 ≡ x.class.0 = t.same h in
    (λ y c. let less = rises.0 y c in omega (arith, same, less), rises.1)
set_rises (h ∷ hs) (suc p) x rises t =
    let rest : IsThere hs x.class p = record { within = omega (arith, t.within); same = λ d. t.same d } in
    let there : Contains hs (get_or hs p h) = Contains-get_or hs p h (omega (arith, t.within)) in
    let same : (get_or hs p h).class.0 ≡ x.class.0 = t.same h in
    let less : h.class.0 < (get_or hs p h).class.0 = rises.0 (get_or hs p h) there in (
      λ y c. elim (set_cases hs p x y c) [
        | inl old ↦ rises.0 y old
        | inr e ↦ subst (λ (z : Hold). h.class.0 < z.class.0) (sym e) (omega (arith, same, less))
      ],
      set_rises hs p x rises.1 rest,
    )

pub set_rising : (hs : List Hold) (p : ℕ) (x : Hold) → AreRising hs → IsThere hs x.class p → AreRising (set hs p x)
set_rising hs p x are t = rising_from (set hs p x) (set_rises hs p x (rises_from hs are) t)

-- where the hold that is there isn't more
pub set_joined : (hs : List Hold) (p : ℕ) (x d : Hold) → IsThere hs x.class p → at_least x.mode (get_or hs p d).mode ≡ true → IsJoined hs x (set hs p x)
set_joined hs p x d t enough = record {
  kept = λ old c. elim (set_old hs p x old d c) [
    | inl more ↦ has_itself (set hs p x) old more
    | inr e ↦ has_by (set hs p x) old x (set_new hs p x t.within)
        (same_class x.class old.class (sym (ap (λ (h : Hold). h.class.0) e ∙ t.same d)))
        (subst (λ (h : Hold). at_least x.mode h.mode ≡ true) (sym e) enough)
  ];
  joined = has_itself (set hs p x) x (set_new hs p x t.within);
  only = λ new c. set_cases hs p x new c;
}

-- where it is more
pub stay_joined : (hs : List Hold) (p : ℕ) (x d : Hold) → IsThere hs x.class p → at_least x.mode (get_or hs p d).mode ≡ false → IsJoined hs x hs
stay_joined hs p x d t less = record {
  kept = λ old c. has_itself hs old c;
  joined = has_by hs x (get_or hs p d) (Contains-get_or hs p d t.within) (same_class _ _ (t.same d)) (at_least_other x.mode _ less);
  only = λ new c. inl c;
}

-- ---- what a set covers

pub covers_there : (hs : List Hold) (p : ℕ) (x d : Hold) → AreRising hs → IsThere hs x.class p → HasAtLeast hs x → at_least (get_or hs p d).mode x.mode ≡ true
covers_there hs p x d are t more =
    let same = rising_once hs are (get_or hs p d) (record { class = x.class; mode = more.mode }) (Contains-get_or hs p d t.within) more.has (t.same d) in
    subst (λ (h : Hold). at_least h.mode x.mode ≡ true) (sym same) more.enough

pub there_covers : (hs : List Hold) (p : ℕ) (x d : Hold) → IsThere hs x.class p → at_least (get_or hs p d).mode x.mode ≡ true → HasAtLeast hs x
there_covers hs p x d t enough = has_by hs x (get_or hs p d) (Contains-get_or hs p d t.within) (same_class _ _ (t.same d)) enough

below_or_past : (a b : ℕ) → (a < b) ⊎ (b ≤ a)
below_or_past a b = elim (cases_order a b) [
  | inl e ↦ inr (omega arith)
  | inr (inl lt) ↦ inl lt
  | inr (inr gt) ↦ inr (omega arith)
]

gap_apart : (hs : List Hold) (p : ℕ) (class : ClassNo) (x : Hold) → IsGap hs class p → Contains hs x → x.class.0 ≡ class.0 → ⊥
gap_apart hs p class x g (k, lt, is) same =
    let at : (get_or hs k x).class.0 ≡ class.0 = ap (λ (h : Hold). h.class.0) is ∙ same in
    elim (below_or_past k p) [
      | inl below ↦ let less : (get_or hs k x).class.0 < class.0 = g.before k x below in omega (arith, at, less)
      | inr past ↦ let less : class.0 < (get_or hs k x).class.0 = g.after k x past lt in omega (arith, at, less)
    ]

pub gap_covers : (hs : List Hold) (p : ℕ) (x : Hold) → IsGap hs x.class p → HasAtLeast hs x → ⊥
gap_covers hs p x g more = gap_apart hs p x.class (record { class = x.class; mode = more.mode }) g more.has refl
