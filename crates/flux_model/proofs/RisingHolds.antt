-- Rising holds: the same by recursion, and that two such lists with the same elements are one.
use Rattle.std.proofs.Common.{◌≡◌, ◌<◌, ℕ, zero, suc, ◌⊎◌, inl, inr, List, [], ◌∷◌, slice_get, Some, refl, sym, ap, subst, ◌∙◌, arith}
use Rattle.std.specs.List.{Contains}
use Rattle.std.proofs.lemmas.Bool.{cases_order}
use Rattle.std.proofs.lemmas.Option.{slice_get-get_or, slice_get_within, get_or_from_slice_get}
use Rattle.flux_model.specs.declared.programs.Hold.{Hold}
use Rattle.flux_model.specs.Locks.{AreRising}

-- ---- elements

pub contains_first : {X : Type 0} (x : X) (xs : List X) → Contains (x ∷ xs) x
contains_first x xs = (0, omega arith, refl)

pub contains_later : {X : Type 0} (x : X) (xs : List X) (y : X) → Contains xs y → Contains (x ∷ xs) y
contains_later x xs y (k, lt, is) = (suc k, omega arith, is)

pub contains_cases : {X : Type 0} (x : X) (xs : List X) (y : X) → Contains (x ∷ xs) y → (y ≡ x) ⊎ Contains xs y
contains_cases x xs y (zero, lt, is) = inl (sym is)
contains_cases x xs y (suc k, lt, is) = inr (k, omega arith, is)

pub contains_none : {X : Type 0} (y : X) → Contains [] y → ⊥
contains_none y (k, lt, is) = omega arith

-- ---- each below all later ones

unfoldable pub Rises : List Hold → Type 0
Rises [] = Unit {0}
Rises (h ∷ hs) = ((x : Hold) → Contains hs x → h.class.0 < x.class.0) × Rises hs

pub rises_from : (hs : List Hold) → AreRising hs → Rises hs
unfolding Rises
rises_from [] are = tt
rises_from (h ∷ hs) are = (
  λ x c. are 0 (suc c.0) h x (omega arith) refl (slice_get-get_or hs c.0 x c.1 ∙ ap Some c.2),
  rises_from hs (λ low high f s lt a b. are (suc low) (suc high) f s (omega arith) a b),
)

get_contains : (hs : List Hold) (k : ℕ) (x : Hold) → slice_get hs k ≡ Some x → Contains hs x
get_contains hs k x at = (k, slice_get_within hs k x at, get_or_from_slice_get hs k x x at)

some_same : (a b : Hold) → Some a ≡ Some b → a ≡ b
some_same a b e = cc

pub rising_from : (hs : List Hold) → Rises hs → AreRising hs
unfolding Rises
rising_from [] rises low high f s lt a b = absurd (omega (arith, slice_get_within [] low f a))
rising_from (h ∷ hs) rises low zero f s lt a b = absurd (omega arith)
rising_from (h ∷ hs) rises zero (suc high) f s lt a b =
    subst (λ (x : Hold). x.class.0 < s.class.0) (some_same h f a) (rises.0 s (get_contains hs high s b))
rising_from (h ∷ hs) rises (suc low) (suc high) f s lt a b = rising_from hs rises.1 low high f s (omega arith) a b

-- two holds on one class are one
pub rising_once : (hs : List Hold) → AreRising hs → (a b : Hold) → Contains hs a → Contains hs b → a.class.0 ≡ b.class.0 → a ≡ b
rising_once hs are a b (i, li, at) (j, lj, bt) same = elim (cases_order i j) [
  | inl e ↦ some_same a b (sym geta ∙ ap (slice_get hs) e ∙ getb)
  | inr (inl lt) ↦ let less = are i j a b lt geta getb in absurd (omega (arith, less, same))
  | inr (inr gt) ↦ let less = are j i b a gt getb geta in absurd (omega (arith, less, same))
]
  where
    geta : slice_get hs i ≡ Some a
    geta = slice_get-get_or hs i a li ∙ ap Some at

    getb : slice_get hs j ≡ Some b
    getb = slice_get-get_or hs j b lj ∙ ap Some bt

-- two such lists that have the same elements are one
rises_same : (hs is : List Hold) → Rises hs → Rises is → ((x : Hold) → Contains hs x → Contains is x) → ((x : Hold) → Contains is x → Contains hs x) → hs ≡ is
unfolding Rises
rises_same [] [] a b to from = refl
rises_same [] (i ∷ is) a b to from = absurd (contains_none i (from i (contains_first i is)))
rises_same (h ∷ hs) [] a b to from = absurd (contains_none h (to h (contains_first h hs)))
rises_same (h ∷ hs) (i ∷ is) a b to from = λ n. first n ∷ rises_same hs is a.1 b.1 onward back n
  where
    first : h ≡ i
    first = elim (contains_cases i is h (to h (contains_first h hs))) [
      | inl same ↦ same
      | inr later ↦ elim (contains_cases h hs i (from i (contains_first i is))) [
        | inl same ↦ sym same
        | inr behind ↦ let low = b.0 h later in let high = a.0 i behind in absurd (omega (arith, low, high))
      ]
    ]

    apart : (x y : Hold) → x ≡ y → y.class.0 < x.class.0 → ⊥
    apart x y same less = let e : x.class.0 ≡ y.class.0 = ap (λ (z : Hold). z.class.0) same in omega (arith, e, less)

    onward : (x : Hold) → Contains hs x → Contains is x
    onward x c = elim (contains_cases i is x (to x (contains_later h hs x c))) [
      | inl same ↦ absurd (apart x h (same ∙ sym first) (a.0 x c))
      | inr later ↦ later
    ]

    back : (x : Hold) → Contains is x → Contains hs x
    back x c = elim (contains_cases h hs x (from x (contains_later i is x c))) [
      | inl same ↦ absurd (apart x i (same ∙ first) (b.0 x c))
      | inr later ↦ later
    ]

pub rising_same : (hs is : List Hold) → AreRising hs → AreRising is → ((x : Hold) → Contains hs x → Contains is x) → ((x : Hold) → Contains is x → Contains hs x) → hs ≡ is
rising_same hs is a b to from = rises_same hs is (rises_from hs a) (rises_from is b) to from
