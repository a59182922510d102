-- The run that stops first, by its place in a list.
use Rattle.std.proofs.Common.{◌≡◌, ◌<◌, ◌≤◌, ◌⊎◌, inl, inr, ℕ, zero, suc, List, [], ◌∷◌, ◌++◌, length, get_or, refl, sym, ap, subst, ◌∙◌, arith}
use Rattle.std.specs.List.{remove}
use Rattle.std.proofs.lemmas.Bool.{cases_lt}
use Rattle.std.proofs.lemmas.List.Elements.{recursion_from_All}
use Rattle.flow_orders.specs.declared.runs.Run.{Run}
use Rattle.flux_simulate.specs.steps.Changes.{StopsBefore, StopsNoLater, IsFirstOf, TakesNext}

-- a run stops no later than itself, and than what stops no later than it
pub no_later-itself : (run : Run) → StopsNoLater run run
no_later-itself run = record { stop = omega arith; flow = λ same. omega arith }

pub no_later-then : (a b c : Run) → StopsBefore a b → StopsNoLater b c → StopsNoLater a c
no_later-then a b c (inl lt) next = let le = next.stop in record {
  stop = omega (arith, lt, le);
  flow = λ same. absurd (omega (arith, lt, le, same));
}
no_later-then a b c (inr (same, low)) next = let le = next.stop in record {
  stop = omega (arith, same, le);
  flow = λ e. let more = next.flow (sym same ∙ e) in omega (arith, low, more);
}

-- what doesn't stop before another stops no earlier
pub no_later-from : (a b : Run) → (StopsBefore b a → ⊥) → StopsNoLater a b
no_later-from a b never = record {
  stop = by_stop (cases_lt b.stop a.stop);
  flow = λ same. by_flow same (cases_lt b.flow.0 a.flow.0);
}
  where
    by_stop : (b.stop < a.stop) ⊎ (a.stop ≤ b.stop) → a.stop ≤ b.stop
    by_stop (inl lt) = absurd (never (inl lt))
    by_stop (inr le) = le

    by_flow : a.stop ≡ b.stop → (b.flow.0 < a.flow.0) ⊎ (a.flow.0 ≤ b.flow.0) → a.flow.0 ≤ b.flow.0
    by_flow same (inl lt) = absurd (never (inr (sym same, lt)))
    by_flow same (inr le) = le

-- ---- what is taken out at a place

-- at a place that is there the default doesn't matter
get-same : (list : List Run) (k : ℕ) (a b : Run) → k < length list → get_or list k a ≡ get_or list k b
get-same [] k a b within = absurd (omega (arith, within))
get-same (x ∷ list) zero a b within = refl
get-same (x ∷ list) (suc k) a b within = get-same list k a b (omega (arith, within))

-- what was read there twice is the same
pub same-place : (runs : List Run) (place : ℕ) (a b : Run) → place < length runs → a ≡ get_or runs place a
    → b ≡ get_or runs place b → a ≡ b
same-place runs place a b within one other = one ∙ get-same runs place a b within ∙ sym other

out-at : (runs : List Run) (place : ℕ) (default : Run) → place < length runs
    → (front : List Run) × (back : List Run) × (runs ≡ front ++ get_or runs place default ∷ back)
    × (remove runs place ≡ front ++ back)
out-at [] place default within = absurd (omega (arith, within))
out-at (run ∷ runs) zero default within = ([], runs, refl, refl)
out-at (run ∷ runs) (suc place) default within =
    let more = out-at runs place default (omega (arith, within)) in
    (run ∷ more.0, more.1, ap (λ (rs : List Run). run ∷ rs) more.2, ap (λ (rs : List Run). run ∷ rs) more.3)

pub taken-out : (runs : List Run) (place : ℕ) (run : Run) → IsFirstOf runs (length runs) place
    → run ≡ get_or runs place run → TakesNext runs (remove runs place) run
taken-out runs place run first is =
    let out = out-at runs place run first.within in record {
      out = record {
        front = out.0;
        back = out.1;
        was = subst (λ (r : Run). runs ≡ out.0 ++ r ∷ out.1) (sym is) out.2;
        is = out.3;
      };
      first = recursion_from_All (StopsNoLater run) runs
          (λ k d within. subst (λ (r : Run). StopsNoLater r (get_or runs k d)) (sym is)
          (by k d within));
    }
  where
    by : (k : ℕ) (d : Run) → k < length runs → StopsNoLater (get_or runs place run) (get_or runs k d)
    by k d within = subst (λ (r : Run). StopsNoLater (get_or runs place run) r) (get-same runs k run d within)
        (first.first k run within)
