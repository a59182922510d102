-- How many of a list's elements pass a test, and how many runs there are at a tick, flow by flow.
use Rattle.std.proofs.Common.{◌≡◌, ◌≢◌, ◌≤◌, ◌<◌, ◌+◌, ◌⊎◌, inl, inr, ℕ, zero, suc, Bool, true, false, cond, eqb, ◌&&◌, List, [], ◌∷◌, refl, sym, ap, subst, ◌∙◌, arith}
use Rattle.std.specs.List.{count_by, AllByRecursion}
use Rattle.std.proofs.lemmas.Bool.{cases_eq, eq-eqb, ne_eqb}
use Rattle.std.proofs.lemmas.List.Sums.{sum_by-cons}
use Rattle.flux_laws.specs.Growth.{sum_below}
use Rattle.flux_laws.proofs.Members.{In}
use Rattle.flux_laws.proofs.FlowSums.{sum-same, sum-le, sum-one}
use Rattle.flow_orders.specs.declared.runs.Run.{Run}
use Rattle.flow_orders.specs.Runs.{covers, running_at, running_of}

-- one for what passes
abbrev tally : Bool → ℕ
tally b = cond b 1 0

module _ {X : Type 0} (p : X → Bool) where
  count-cons : (x : X) (xs : List X) → count_by p (x ∷ xs) ≡ tally (p x) + count_by p xs
  count-cons x xs = sum_by-cons (λ y. tally (p y)) x xs

  -- one that passes
  pub count-some : (xs : List X) (x : X) → In x xs → p x ≡ true → 1 ≤ count_by p xs
  count-some [] x is e = absurd is
  count-some (y ∷ xs) x (inl same) e =
      let own : tally (p y) ≡ 1 = ap tally (ap p same ∙ e) in
      let all = count-cons y xs in
      omega (arith, own, all)
  count-some (y ∷ xs) x (inr is) e = let more = count-some xs x is e in let all = count-cons y xs in omega (arith, more, all)

  pub some-count : (xs : List X) → 1 ≤ count_by p xs → (x : X) × In x xs × (p x ≡ true)
  some-count [] le = absurd (omega (arith, le))
  some-count (y ∷ xs) le = by (p y) refl (some-count xs)
    where
      by : (b : Bool) → p y ≡ b → (1 ≤ count_by p xs → (x : X) × In x xs × (p x ≡ true)) → (x : X) × In x (y ∷ xs) × (p x ≡ true)
      by true e more = (y, inl refl, e)
      by false e more =
          let none : tally (p y) ≡ 0 = ap tally e in
          let all = count-cons y xs in
          let (x, is, t) = more (omega (arith, le, all, none)) in
          (x, inr is, t)

  -- two that differ
  pub two-count : (xs : List X) (x y : X) → In x xs → In y xs → p x ≡ true → p y ≡ true → (x ≡ y → ⊥) → 2 ≤ count_by p xs
  two-count [] x y a b e f apart = absurd a
  two-count (z ∷ xs) x y (inl a) (inl b) e f apart = absurd (apart (sym a ∙ b))
  two-count (z ∷ xs) x y (inl a) (inr b) e f apart =
      let own : tally (p z) ≡ 1 = ap tally (ap p a ∙ e) in
      let all = count-cons z xs in
      let more = count-some xs y b f in
      omega (arith, own, all, more)
  two-count (z ∷ xs) x y (inr a) (inl b) e f apart =
      let own : tally (p z) ≡ 1 = ap tally (ap p b ∙ f) in
      let all = count-cons z xs in
      let more = count-some xs x a e in
      omega (arith, own, all, more)
  two-count (z ∷ xs) x y (inr a) (inr b) e f apart = let more = two-count xs x y a b e f apart in let all = count-cons z xs in omega (arith, all, more)

-- ---- runs, flow by flow

and-none : (a b : Bool) → b ≡ false → (a && b) ≡ false
and-none true b e = e
and-none false b e = refl

and-first : (a b : Bool) → a ≡ false → (a && b) ≡ false
and-first true b e = absurd cc
and-first false b e = refl

and-both : (a b : Bool) → a ≡ true → b ≡ true → (a && b) ≡ true
and-both true b e f = f
and-both false b e f = absurd cc

module _ (tick : ℕ) where
  of-cons : (run : Run) (runs : List Run) (flow : ℕ) → running_of (run ∷ runs) flow tick ≡ tally (eqb run.flow.0 flow && covers tick run) + running_of runs flow tick
  of-cons run runs flow = count-cons (λ (r : Run). eqb r.flow.0 flow && covers tick r) run runs

  at-cons : (run : Run) (runs : List Run) → running_at (run ∷ runs) tick ≡ tally (covers tick run) + running_at runs tick
  at-cons run runs = count-cons (covers tick) run runs

  nothing : (count : ℕ) → 0 ≡ sum_below (λ flow. running_of [] flow tick) count
  nothing zero = refl
  nothing (suc count) = let more = nothing count in omega (arith, more)

  -- all that run are those of each flow together
  pub running-sum : (count : ℕ) (runs : List Run) → AllByRecursion (λ run. run.flow.0 < count) runs → running_at runs tick ≡ sum_below (λ flow. running_of runs flow tick) count
  running-sum count [] all = nothing count
  running-sum count (run ∷ runs) all = by (covers tick run) refl (running-sum count runs all.1)
    where
      by : (b : Bool) → covers tick run ≡ b → running_at runs tick ≡ sum_below (λ flow. running_of runs flow tick) count → running_at (run ∷ runs) tick ≡ sum_below (λ flow. running_of (run ∷ runs) flow tick) count
      by false e more =
          let same = sum-same (λ flow. running_of runs flow tick) (λ flow. running_of (run ∷ runs) flow tick) count
          (λ flow lt.
          let own : tally (eqb run.flow.0 flow && covers tick run) ≡ 0 = ap tally (and-none (eqb run.flow.0 flow) (covers tick run) e) in
          let cons = of-cons run runs flow in
          omega (arith, own, cons)) in
          let none : tally (covers tick run) ≡ 0 = ap tally e in
          let all_ = at-cons run runs in
          omega (arith, same, none, all_, more)
      by true e more =
          let one = sum-one (λ flow. running_of runs flow tick) (λ flow. running_of (run ∷ runs) flow tick) run.flow.0 count all.0
          (let own : tally (eqb run.flow.0 run.flow.0 && covers tick run) ≡ 1 = ap tally (and-both (eqb run.flow.0 run.flow.0) (covers tick run) (eq-eqb run.flow.0 run.flow.0 refl) e) in
          let cons = of-cons run runs run.flow.0 in
          omega (arith, own, cons))
          (λ flow apart.
          let own : tally (eqb run.flow.0 flow && covers tick run) ≡ 0 = ap tally (and-first (eqb run.flow.0 flow) (covers tick run) (ne_eqb run.flow.0 flow apart)) in
          let cons = of-cons run runs flow in
          omega (arith, own, cons)) in
          let some : tally (covers tick run) ≡ 1 = ap tally e in
          let all_ = at-cons run runs in
          omega (arith, one, some, all_, more)

-- one flow has less
pub sum-less : (g h : ℕ → ℕ) (own count : ℕ) → own < count → g own + 1 ≤ h own → ((flow : ℕ) → flow < count → g flow ≤ h flow) → sum_below g count + 1 ≤ sum_below h count
sum-less g h own zero lt less le = absurd (omega (arith, lt))
sum-less g h own (suc count) lt less le = by (cases_eq own count) (λ below. sum-less g h own count below less (λ flow b. le flow (omega (arith, b))))
  where
    by : (own ≡ count) ⊎ (own ≡ count → ⊥) → (own < count → sum_below g count + 1 ≤ sum_below h count) → sum_below g (suc count) + 1 ≤ sum_below h (suc count)
    by (inl same) further =
        let rest = sum-le g h count (λ flow b. le flow (omega (arith, b))) in
        let here : g count + 1 ≤ h count = subst (λ f. g f + 1 ≤ h f) same less in
        omega (arith, rest, here)
    by (inr apart) further =
        let ne : own ≢ count = apart in
        let rest = further (omega (arith, lt, ne)) in
        let here = le count (omega arith) in
        omega (arith, rest, here)
