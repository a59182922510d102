-- Sums over flows, and the entries of all flows together.
use Rattle.std.proofs.Common.{◌≡◌, ◌≢◌, ◌<◌, ◌≤◌, ◌+◌, ◌⊎◌, inl, inr, ℕ, zero, suc, Bool, cond, List, [], ◌∷◌, length, refl, ap, ◌∙◌, arith}
use Rattle.std.specs.List.{AllByRecursion}
use Rattle.std.proofs.lemmas.Bool.{cases_eq, eq-eqb, ne_eqb}
use Rattle.flow_model.specs.declared.journals.Entry.{Entry}
use Rattle.flow_model.specs.Events.{events_by}
use Rattle.flux_laws.specs.Growth.{sum_below}

-- flows with the same numbers
pub sum-same : (g h : ℕ → ℕ) (count : ℕ) → ((flow : ℕ) → flow < count → h flow ≡ g flow) → sum_below h count ≡ sum_below g count
sum-same g h zero same = refl
sum-same g h (suc count) same =
    let more = sum-same g h count (λ flow lt. same flow (omega (arith, lt))) in
    let own = same count (omega arith) in
    omega (arith, more, own)

-- none has less
pub sum-le : (g h : ℕ → ℕ) (count : ℕ) → ((flow : ℕ) → flow < count → g flow ≤ h flow) → sum_below g count ≤ sum_below h count
sum-le g h zero le = omega arith
sum-le g h (suc count) le =
    let more = sum-le g h count (λ flow lt. le flow (omega (arith, lt))) in
    let own = le count (omega arith) in
    omega (arith, more, own)

-- one flow has one more
pub sum-one : (g h : ℕ → ℕ) (own count : ℕ) → own < count → h own ≡ g own + 1 → ((flow : ℕ) → (own ≡ flow → ⊥) → h flow ≡ g flow) → sum_below h count ≡ sum_below g count + 1
sum-one g h own zero lt more others = absurd (omega (arith, lt))
sum-one g h own (suc count) lt more others = by (cases_eq own count) (λ less. sum-one g h own count less more others)
  where
    by : (own ≡ count) ⊎ (own ≡ count → ⊥) → (own < count → sum_below h count ≡ sum_below g count + 1) → sum_below h (suc count) ≡ sum_below g (suc count) + 1
    by (inl same) further =
        let rest = sum-same g h count (λ flow below. others flow (λ (e : own ≡ flow). omega (arith, e, same, below))) in
        let here : h count ≡ g count + 1 = rw (← same) more in
        omega (arith, rest, here)
    by (inr apart) further =
        let ne : own ≢ count = apart in
        let rest = further (omega (arith, lt, ne)) in
        let here = others count apart in
        omega (arith, rest, here)

-- how many entries a flow has
abbrev pub count-by : List Entry → ℕ → ℕ
count-by entries flow = length (events_by flow entries)

-- entries are those of all flows together
pub count-all : (count : ℕ) (entries : List Entry) → AllByRecursion (λ entry. entry.flow.0 < count) entries → length entries ≡ sum_below (count-by entries) count
count-all count [] all = none count
  where
    none : (n : ℕ) → 0 ≡ sum_below (λ flow. 0) n
    none zero = refl
    none (suc n) = let e = none n in omega (arith, e)
count-all count (entry ∷ entries) (lt, all) =
    let more = count-all count entries all in
    let one = sum-one (count-by entries) (count-by (entry ∷ entries)) entry.flow.0 count lt
    (ap (λ (b : Bool). length (cond b (entry.event ∷ events_by entry.flow.0 entries) (events_by entry.flow.0 entries))) (eq-eqb entry.flow.0 entry.flow.0 refl) ∙ omega arith)
    (λ flow apart. ap (λ (b : Bool). length (cond b (entry.event ∷ events_by flow entries) (events_by flow entries))) (ne_eqb entry.flow.0 flow apart)) in
    omega (arith, more, one)
