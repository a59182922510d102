-- Journals with ticks, cut at a tick.
use Rattle.std.proofs.Common.{◌≡◌, ◌≤◌, ◌<◌, ◌⊎◌, inl, inr, ℕ, suc, Bool, true, false, cond, eqb, leb, List, [], ◌∷◌, ◌++◌, map, length, refl, sym, ap, subst, ◌∙◌, arith}
use Rattle.std.specs.List.{AllByRecursion, slice_index_or}
use Rattle.std.specs.List.Sorted.{IsNonDecreasing}
use Rattle.std.proofs.lemmas.Bool.{cases_lt, eq-eqb}
use Rattle.std.proofs.lemmas.Bool.Decides.{nat_tests}
use Rattle.flow_model.specs.declared.journals.Entry.{Entry}
use Rattle.flux_laws.proofs.Members.{In}
use Rattle.flow_orders.specs.Ticks.{Timed, timed, until, at_tick}

-- its entries
abbrev pub bare : Timed → List Entry
bare journal = map (λ one. one.1) journal

pub bare-append : (a b : Timed) → bare (a ++ b) ≡ bare a ++ bare b
bare-append [] b = refl
bare-append (x ∷ a) b = ap (λ (es : List Entry). x.1 ∷ es) (bare-append a b)

pub bare-timed : (at : List ℕ) (entries : List Entry) → length at ≡ length entries → bare (timed at entries) ≡ entries
bare-timed [] [] same = refl
bare-timed [] (e ∷ entries) same = absurd (omega (arith, same))
bare-timed (t ∷ at) [] same = absurd (omega (arith, same))
bare-timed (t ∷ at) (e ∷ entries) same = ap (λ (es : List Entry). e ∷ es) (bare-timed at entries (omega (arith, same)))

pub ticks-timed : (at : List ℕ) (entries : List Entry) → length at ≡ length entries → map (λ one. one.0) (timed at entries) ≡ at
ticks-timed [] [] same = refl
ticks-timed [] (e ∷ entries) same = absurd (omega (arith, same))
ticks-timed (t ∷ at) [] same = absurd (omega (arith, same))
ticks-timed (t ∷ at) (e ∷ entries) same = ap (λ (ts : List ℕ). t ∷ ts) (ticks-timed at entries (omega (arith, same)))

-- ---- all of a list

pub all-weaker : {X : Type 0} (P Q : X → Type 0) (xs : List X) → ((x : X) → P x → Q x) → AllByRecursion P xs → AllByRecursion Q xs
all-weaker P Q [] of all = tt
all-weaker P Q (x ∷ xs) of all = (of x all.0, all-weaker P Q xs of all.1)

pub all-both : {X : Type 0} (P : X → Type 0) (a b : List X) → AllByRecursion P a → AllByRecursion P b → AllByRecursion P (a ++ b)
all-both P [] b one two = two
all-both P (x ∷ a) b one two = (one.0, all-both P a b one.1 two)

pub all-in : {X : Type 0} (P : X → Type 0) (xs : List X) (x : X) → AllByRecursion P xs → In x xs → P x
all-in P [] x all is = absurd is
all-in P (y ∷ xs) x all (inl same) = subst P same all.0
all-in P (y ∷ xs) x all (inr is) = all-in P xs x all.1 is

pub record IsAmong {X : Type 0} (xs : List X) (x : X) : Type 0 where
  pub before : List X
  pub after : List X
  pub is : xs ≡ before ++ x ∷ after

pub among : {X : Type 0} (xs : List X) (x : X) → In x xs → IsAmong xs x
among [] x is = absurd is
among (y ∷ xs) x (inl same) = record { before = []; after = xs; is = ap (λ z. z ∷ xs) same }
among (y ∷ xs) x (inr is) = let more = among xs x is in record { before = y ∷ more.before; after = more.after; is = ap (λ zs. y ∷ zs) more.is }

pub in-here : {X : Type 0} (before : List X) (x : X) (after : List X) → In x (before ++ x ∷ after)
in-here [] x after = inl refl
in-here (y ∷ before) x after = inr (in-here before x after)

-- ---- ticks that rise

abbrev pub AreRising : Timed → Type 0
AreRising [] = Unit {0}
AreRising (one ∷ journal) = AllByRecursion (λ other. one.0 ≤ other.0) journal × AreRising journal

later-all : (t : ℕ) (at : List ℕ) (entries : List Entry) → ((j d : ℕ) → j < length at → t ≤ slice_index_or at j d) → AllByRecursion (λ other. t ≤ other.0) (timed at entries)
later-all t [] entries le = tt
later-all t (u ∷ at) [] le = tt
later-all t (u ∷ at) (e ∷ entries) le = (le 0 0 (omega arith), later-all t at entries (λ j d lt. le (suc j) d (omega (arith, lt))))

pub rising-timed : (at : List ℕ) (entries : List Entry) → IsNonDecreasing at → AreRising (timed at entries)
rising-timed [] entries rising = tt
rising-timed (t ∷ at) [] rising = tt
rising-timed (t ∷ at) (e ∷ entries) rising = (
  later-all t at entries (λ j d lt. rising 0 (suc j) d (omega arith) (omega (arith, lt))),
  rising-timed at entries (λ i j d le lt. rising (suc i) (suc j) d (omega (arith, le)) (omega (arith, lt))),
)

pub rising-front : (a b : Timed) → AreRising (a ++ b) → AreRising a
rising-front [] b rising = tt
rising-front (x ∷ a) b rising = (front a rising.0, rising-front a b rising.1)
  where
    front : (c : Timed) → AllByRecursion (λ other. x.0 ≤ other.0) (c ++ b) → AllByRecursion (λ other. x.0 ≤ other.0) c
    front [] all = tt
    front (y ∷ c) all = (all.0, front c all.1)

-- what comes later has no lesser tick
pub rising-after : (a : Timed) (x : ℕ × Entry) (b : Timed) → AreRising (a ++ x ∷ b) → AllByRecursion (λ other. x.0 ≤ other.0) b
rising-after [] x b rising = rising.0
rising-after (y ∷ a) x b rising = rising-after a x b rising.1

pub rising-before : (a : Timed) (x : ℕ × Entry) (b : Timed) → AreRising (a ++ x ∷ b) → AllByRecursion (λ other. other.0 ≤ x.0) a
rising-before [] x b rising = tt
rising-before (y ∷ a) x b rising = (all-in (λ (z : ℕ × Entry). y.0 ≤ z.0) (a ++ x ∷ b) x rising.0 (in-here a x b), rising-before a x b rising.1)

-- ---- a cut

-- up to a tick a journal is this
pub record IsCut (tick : ℕ) (journal before : Timed) : Type 0 where
  pub after : Timed
  pub is : journal ≡ before ++ after
  pub below : AllByRecursion (λ one. one.0 ≤ tick) before
  pub above : AllByRecursion (λ one. tick < one.0) after

pub cut-at : (tick : ℕ) (journal : Timed) → AreRising journal → (before : Timed) × IsCut tick journal before
cut-at tick [] rising = ([], record { after = []; is = refl; below = tt; above = tt })
cut-at tick (x ∷ journal) rising = by (cases_lt tick x.0) (cut-at tick journal rising.1)
  where
    by : (tick < x.0) ⊎ (x.0 ≤ tick) → (before : Timed) × IsCut tick journal before → (before : Timed) × IsCut tick (x ∷ journal) before
    by (inl lt) more = ([], record { after = x ∷ journal; is = refl; below = tt; above = (lt, all-weaker (λ (y : ℕ × Entry). x.0 ≤ y.0) (λ y. tick < y.0) journal (λ y le. omega (arith, lt, le)) rising.0) })
    by (inr le) (before, cut) = (x ∷ before, record { after = cut.after; is = ap (λ (j : Timed). x ∷ j) cut.is; below = (le, cut.below); above = cut.above })

none-chosen : (tick : ℕ) (after : Timed) → AllByRecursion (λ one. tick < one.0) after → until tick after ≡ []
none-chosen tick [] all = refl
none-chosen tick (x ∷ after) all =
    let lt = all.0 in
    let no : leb x.0 tick ≡ false = grind (arith, nat_tests, lt) in
    rw no (none-chosen tick after all.1)

all-chosen : (tick : ℕ) (before after : Timed) → AllByRecursion (λ one. one.0 ≤ tick) before → until tick after ≡ [] → until tick (before ++ after) ≡ bare before
all-chosen tick [] after all none = none
all-chosen tick (x ∷ before) after all none =
    let le = all.0 in
    let yes : leb x.0 tick ≡ true = grind (arith, nat_tests, le) in
    rw yes (ap (λ (es : List Entry). x.1 ∷ es) (all-chosen tick before after all.1 none))

pub until-cut : (tick : ℕ) (journal before : Timed) → IsCut tick journal before → until tick journal ≡ bare before
until-cut tick journal before cut = ap (until tick) cut.is ∙ all-chosen tick before cut.after cut.below (none-chosen tick cut.after cut.above)

-- an entry of a tick is in what was done at it
pub tick-in : (tick : ℕ) (journal : Timed) (x : ℕ × Entry) → In x journal → x.0 ≡ tick → In x.1 (at_tick tick journal)
tick-in tick [] x is same = absurd is
tick-in tick (y ∷ journal) x is same = by (eqb y.0 tick) refl is (λ more. tick-in tick journal x more same)
  where
    by : (b : Bool) → eqb y.0 tick ≡ b → In x (y ∷ journal) → (In x journal → In x.1 (at_tick tick journal)) → In x.1 (cond b (y.1 ∷ at_tick tick journal) (at_tick tick journal))
    by true e (inl own) more = inl (ap (λ (z : ℕ × Entry). z.1) own)
    by true e (inr own) more = inr (more own)
    by false e (inl own) more =
        let tick_same : y.0 ≡ tick = ap (λ (z : ℕ × Entry). z.0) own ∙ same in
        let h : false ≡ true = sym e ∙ eq-eqb y.0 tick tick_same in absurd cc
    by false e (inr own) more = more own
