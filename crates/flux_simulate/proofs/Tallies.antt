-- How many runs pass a test, and what all runs of a list keep.
use Rattle.std.proofs.Common.{◌≡◌, ◌<◌, ◌≤◌, ◌+◌, ◌*◌, ◌⊎◌, inl, inr, ℕ, Bool, true, false, cond, eqb, leb, ltb, ◌&&◌, List, [], ◌∷◌, ◌++◌, length, refl, ap, arith}
use Rattle.std.specs.List.{count_by, sum_by, AllByRecursion}
use Rattle.std.proofs.lemmas.Bool.{eqb-false, eq-eqb, ne_eqb, le-leb, lt-leb, lt-ltb, le-ltb, cases_Bool, and_from, and_left, and_right}
use Rattle.std.proofs.lemmas.List.Sums.{sum_by-cons, sum_by-append, sum_by_push}
use Rattle.flow_orders.specs.declared.runs.Run.{Run}
use Rattle.flow_orders.specs.Runs.{covers, running_at, running_of, starting_from}
use Rattle.flux_simulate.specs.steps.Ticking.{IsOver, runs_of}

-- ---- what each keeps

pub all-join : {X : Type 0} (P : X → Type 0) (a b : List X) → AllByRecursion P a → AllByRecursion P b
    → AllByRecursion P (a ++ b)
all-join P [] b first second = second
all-join P (x ∷ a) b first second = (first.0, all-join P a b first.1 second)

pub all-map : {X : Type 0} (P Q : X → Type 0) → ((x : X) → P x → Q x) → (xs : List X) → AllByRecursion P xs
    → AllByRecursion Q xs
all-map P Q gives [] all = tt
all-map P Q gives (x ∷ xs) all = (gives x all.0, all-map P Q gives xs all.1)

pub all-both : {X : Type 0} (P Q R : X → Type 0) → ((x : X) → P x → Q x → R x) → (xs : List X) → AllByRecursion P xs
    → AllByRecursion Q xs → AllByRecursion R xs
all-both P Q R gives [] first second = tt
all-both P Q R gives (x ∷ xs) first second =
    (gives x first.0 second.0, all-both P Q R gives xs first.1 second.1)

-- one that is taken out of a list, and the others
pub all-taken : {X : Type 0} (P : X → Type 0) (front : List X) (x : X) (back : List X)
    → AllByRecursion P (front ++ x ∷ back) → P x
all-taken P [] x back all = all.0
all-taken P (y ∷ front) x back all = all-taken P front x back all.1

pub all-left : {X : Type 0} (P : X → Type 0) (front : List X) (x : X) (back : List X)
    → AllByRecursion P (front ++ x ∷ back) → AllByRecursion P (front ++ back)
all-left P [] x back all = all.1
all-left P (y ∷ front) x back all = (all.0, all-left P front x back all.1)

-- ---- sums

pub sum-taken : {X : Type 0} (f : X → ℕ) (front : List X) (x : X) (back : List X)
    → sum_by f (front ++ x ∷ back) ≡ sum_by f (front ++ back) + f x
sum-taken f front x back =
    let whole = sum_by-append f front (x ∷ back) in
    let rest = sum_by-append f front back in
    let one = sum_by-cons f x back in
    omega (arith, whole, rest, one)

-- a run that moves from the second list to the end of the first
pub sum-moved : {X : Type 0} (f : X → ℕ) (ended front : List X) (x : X) (back : List X)
    → sum_by f ((ended ++ x ∷ []) ++ (front ++ back)) ≡ sum_by f (ended ++ (front ++ x ∷ back))
sum-moved f ended front x back =
    let now = sum_by-append f (ended ++ x ∷ []) (front ++ back) in
    let was = sum_by-append f ended (front ++ x ∷ back) in
    let taken = sum-taken f front x back in
    let pushed = sum_by_push f ended x in
    omega (arith, now, was, taken, pushed)

-- one more at the end of the second list
pub sum-behind : {X : Type 0} (f : X → ℕ) (ended running : List X) (x : X)
    → sum_by f (ended ++ (running ++ x ∷ [])) ≡ sum_by f (ended ++ running) + f x
sum-behind f ended running x =
    let now = sum_by-append f ended (running ++ x ∷ []) in
    let was = sum_by-append f ended running in
    let pushed = sum_by_push f running x in
    omega (arith, now, was, pushed)

pub sum-le : {X : Type 0} (f g : X → ℕ) (xs : List X) → AllByRecursion (λ x. f x ≤ g x) xs
    → sum_by f xs ≤ sum_by g xs
sum-le f g [] all = omega arith
sum-le f g (x ∷ xs) all =
    let a = sum_by-cons f x xs in
    let b = sum_by-cons g x xs in
    let more = sum-le f g xs all.1 in
    let own = all.0 in
    omega (arith, a, b, more, own)

pub sum-same : {X : Type 0} (f g : X → ℕ) (xs : List X) → AllByRecursion (λ x. f x ≡ g x) xs
    → sum_by f xs ≡ sum_by g xs
sum-same f g [] all = refl
sum-same f g (x ∷ xs) all =
    let a = sum_by-cons f x xs in
    let b = sum_by-cons g x xs in
    let more = sum-same f g xs all.1 in
    let own = all.0 in
    omega (arith, a, b, more, own)

pub sum-most : {X : Type 0} (f : X → ℕ) (most : ℕ) (xs : List X) → AllByRecursion (λ x. f x ≤ most) xs
    → sum_by f xs ≤ most * length xs
sum-most f most [] all = omega arith
sum-most f most (x ∷ xs) all =
    let a = sum_by-cons f x xs in
    let more = sum-most f most xs all.1 in
    let own = all.0 in
    omega (arith, a, more, own)

-- ---- counts

abbrev pub count_one : Bool → ℕ
count_one is = cond is 1 0

pub count-none : {X : Type 0} (test : X → Bool) (xs : List X) → AllByRecursion (λ x. test x ≡ false) xs
    → count_by test xs ≡ 0
count-none test [] all = refl
count-none test (x ∷ xs) all =
    let one = sum_by-cons (λ y. count_one (test y)) x xs in
    let own = ap count_one all.0 in
    let more = count-none test xs all.1 in
    omega (arith, one, own, more)

pub count-all : {X : Type 0} (test : X → Bool) (xs : List X) → AllByRecursion (λ x. test x ≡ true) xs
    → count_by test xs ≡ length xs
count-all test [] all = refl
count-all test (x ∷ xs) all =
    let one = sum_by-cons (λ y. count_one (test y)) x xs in
    let own = ap count_one all.0 in
    let more = count-all test xs all.1 in
    omega (arith, one, own, more)

-- where none passes, each fails
pub none-counts : {X : Type 0} (test : X → Bool) (xs : List X) → count_by test xs ≡ 0
    → AllByRecursion (λ x. test x ≡ false) xs
none-counts test [] none = tt
none-counts test (x ∷ xs) none = by (cases_Bool (test x)) (λ rest. none-counts test xs rest)
  where
    by : (test x ≡ true) ⊎ (test x ≡ false) → (count_by test xs ≡ 0 → AllByRecursion (λ y. test y ≡ false) xs)
        → AllByRecursion (λ y. test y ≡ false) (x ∷ xs)
    by (inl is) more =
        let one = sum_by-cons (λ y. count_one (test y)) x xs in
        let own = ap count_one is in
        absurd (omega (arith, one, own, none))
    by (inr fails) more =
        let one = sum_by-cons (λ y. count_one (test y)) x xs in
        let own = ap count_one fails in
        (fails, more (omega (arith, one, own, none)))

-- ---- runs and ticks

pub covers-on : (t : ℕ) (run : Run) → run.start ≤ t → t < run.stop → covers t run ≡ true
covers-on t run begun on = and_from (leb run.start t) (ltb t run.stop) (le-leb run.start t begun) (lt-ltb t run.stop on)

pub covers-before : (t : ℕ) (run : Run) → t < run.start → covers t run ≡ false
covers-before t run early = and_left (leb run.start t) (ltb t run.stop) (lt-leb run.start t early)

pub covers-over : (t : ℕ) (run : Run) → run.stop ≤ t → covers t run ≡ false
covers-over t run over = and_right (leb run.start t) (ltb t run.stop) (le-ltb t run.stop over)

-- runs that have ended cover no tick any more, and start at none
module _ (t tick : ℕ) (now : tick ≤ t) (ended : List Run) (over : AllByRecursion (IsOver tick) ended) where
  pub ended-at : running_at ended t ≡ 0
  ended-at = count-none (covers t) ended
      (all-map (IsOver tick) (λ run. covers t run ≡ false) (λ run is. covers-over t run (let o = is.over in omega (arith, o, now)))
      ended over)

  pub ended-of : (flow : ℕ) → running_of ended flow t ≡ 0
  ended-of flow = count-none (λ run. eqb run.flow.0 flow && covers t run) ended
      (all-map (IsOver tick) (λ run. (eqb run.flow.0 flow && covers t run) ≡ false)
      (λ run is. and_right (eqb run.flow.0 flow) (covers t run)
      (covers-over t run (let o = is.over in omega (arith, o, now)))) ended over)

  pub ended-from : (flow : ℕ) → starting_from ended flow t ≡ 0
  ended-from flow = count-none (λ run. eqb run.start t && leb flow run.flow.0) ended
      (all-map (IsOver tick) (λ run. (eqb run.start t && leb flow run.flow.0) ≡ false)
      (λ run is. and_left (eqb run.start t) (leb flow run.flow.0)
      (ne_eqb run.start t (λ same. let took = is.took in let o = is.over in omega (arith, same, took, o, now)))) ended over)

-- runs that go on cover each tick up to the first stop
module _ (t : ℕ) (running : List Run) (on : AllByRecursion (λ run. covers t run ≡ true) running) where
  pub on-at : running_at running t ≡ length running
  on-at = count-all (covers t) running on

  pub on-of : (flow : ℕ) → running_of running flow t ≡ runs_of running flow
  on-of flow = sum-same (λ (run : Run). count_one (eqb run.flow.0 flow && covers t run))
      (λ (run : Run). count_one (eqb run.flow.0 flow)) running
      (all-map (λ run. covers t run ≡ true)
      (λ run. count_one (eqb run.flow.0 flow && covers t run) ≡ count_one (eqb run.flow.0 flow))
      (λ run is. by (eqb run.flow.0 flow) (covers t run) is) running on)
    where
      by : (b c : Bool) → c ≡ true → count_one (b && c) ≡ count_one b
      by true true is = refl
      by true false is = absurd cc
      by false c is = refl

-- ---- runs of a flow

pub runs-taken : (front : List Run) (run : Run) (back : List Run) (flow : ℕ)
    → runs_of (front ++ run ∷ back) flow ≡ runs_of (front ++ back) flow + count_one (eqb run.flow.0 flow)
runs-taken front run back flow = sum-taken (λ (r : Run). count_one (eqb r.flow.0 flow)) front run back

pub runs-behind : (running : List Run) (run : Run) (flow : ℕ)
    → runs_of (running ++ run ∷ []) flow ≡ runs_of running flow + count_one (eqb run.flow.0 flow)
runs-behind running run flow = sum_by_push (λ (r : Run). count_one (eqb r.flow.0 flow)) running run

pub own-one : (flow : ℕ) → count_one (eqb flow flow) ≡ 1
own-one flow = ap count_one (eq-eqb flow flow refl)

pub other-none : (one flow : ℕ) → (one ≡ flow → ⊥) → count_one (eqb one flow) ≡ 0
other-none one flow apart = ap count_one (ne_eqb one flow apart)

-- where a flow has no run, all runs are of others
pub runs-apart : (running : List Run) (flow : ℕ) → runs_of running flow ≡ 0
    → AllByRecursion (λ run. run.flow.0 ≡ flow → ⊥) running
runs-apart running flow none =
    all-map (λ run. eqb run.flow.0 flow ≡ false) (λ run. run.flow.0 ≡ flow → ⊥)
    (λ run fails. eqb-false run.flow.0 flow fails) running
    (none-counts (λ (run : Run). eqb run.flow.0 flow) running none)
