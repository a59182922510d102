-- Why these doors and batches fit, or don't.
use Rattle.std.proofs.Common.{◌≡◌, ◌≤◌, ℕ, List, [], ◌∷◌, Option, Some, None, ap, refl, inl, inr, arith}
use Rattle.flux_outside.specs.Causes.{Rose}
use Rattle.flux_doors.specs.Doors.{first_link}
use Rattle.flux_batches.specs.Gathered.{AreAll}
use Rattle.flux_examples.specs.Doors.{behind_one, DoorsFit, DoorsMisfit}

-- counts that rose by one
pub rose : Rose 0 1
rose = let up : 1 ≤ 1 = omega arith in up

-- and a count that didn't rise
pub stands : Rose 0 0 → ⊥
stands up = let below : 1 ≤ 0 = up in omega (arith, below)

abbrev number_of : Option ℕ → ℕ
number_of None = 0
number_of (Some n) = n

not_all : AreAll behind_one (1 ∷ []) → ⊥
not_all (inl (others, is)) = let same : 2 ≡ 0 = ap (λ (batches : List (List ℕ)). number_of (first_link batches)) is in omega (arith, same)
not_all (inr is) = let same : 1 ≡ 64 = is in omega (arith, same)

pub fit : DoorsFit
fit = record {
  opened = refl;
  unopened = λ failed. refl;
  passed = refl;
  nobody = refl;
  behind = refl;
  behind_none = refl;
  first = λ failed. (record { later = omega arith; failed = rose; steady = tt }, refl);
  later = λ failed. (record { later = omega arith; failed = rose; steady = tt }, refl);
  all = (record { left = []; others = (3 ∷ []) ∷ []; first = refl; behind = refl }, λ steady. inl ((3 ∷ []) ∷ [], refl));
  fewer = (record { left = 2 ∷ []; others = (3 ∷ []) ∷ []; first = refl; behind = refl }, λ steady. absurd (steady rose));
}

pub misfit : DoorsMisfit
misfit = record {
  first = λ failed cause. let own = cause.0 in stands own.failed;
  answered = λ cause. let own = cause.0 in let same : 1 ≡ 0 = own.steady in omega (arith, same);
  fewer = λ are. not_all (are.1 stands);
  other = λ are. let first = are.0 in let same : 1 ≡ 2 = ap (λ (batches : List (List ℕ)). number_of (first_link batches)) first.first in omega (arith, same);
}
