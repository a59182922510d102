-- The order in which flows are looked at.
use Rattle.std.proofs.Common.{◌<◌, ◌+◌, inl, inr, ℕ, arith}
use Rattle.flow_orders.specs.Turns.{IsBefore}

-- no flow comes before itself
pub before-itself : (from a : ℕ) → IsBefore from a a → ⊥
before-itself from a (inl (le, inl lt)) = omega (arith, lt)
before-itself from a (inl (le, inr lt)) = omega (arith, le, lt)
before-itself from a (inr (lt, below)) = omega (arith, lt)

pub before-then : (from a b c : ℕ) → IsBefore from a b → IsBefore from b c → IsBefore from a c
before-then from a b c (inl (le, inl lt)) (inl (more, inl less)) = inl (le, inl (omega (arith, lt, less)))
before-then from a b c (inl (le, inl lt)) (inl (more, inr less)) = inl (le, inr less)
before-then from a b c (inl (le, inl lt)) (inr (less, below)) = absurd (omega (arith, le, lt, less, below))
before-then from a b c (inl (le, inr lt)) (inl (more, later)) = absurd (omega (arith, lt, more))
before-then from a b c (inl (le, inr lt)) (inr (less, below)) = inl (le, inr below)
before-then from a b c (inr (lt, below)) (inl (more, later)) = absurd (omega (arith, below, more))
before-then from a b c (inr (lt, below)) (inr (less, low)) = inr (omega (arith, lt, less), low)

-- not both of two flows come before the other
pub before-turned : (from a b : ℕ) → IsBefore from a b → IsBefore from b a → ⊥
before-turned from a b one other = before-itself from a (before-then from a b a one other)

-- after the first flow, the order of all others stays when it goes on from there
pub before-later : (from first a b : ℕ) → IsBefore from first a → IsBefore from a b → IsBefore (first + 1) a b
before-later from first a b (inl (le, inl lt)) (inl (more, inl less)) = inl (omega (arith, lt), inl less)
before-later from first a b (inl (le, inl lt)) (inl (more, inr less)) =
    inl (omega (arith, lt), inr (omega (arith, le, less)))
before-later from first a b (inl (le, inl lt)) (inr (less, below)) = absurd (omega (arith, le, lt, less, below))
before-later from first a b (inl (le, inr lt)) (inl (more, later)) = absurd (omega (arith, lt, more))
before-later from first a b (inl (le, inr lt)) (inr (less, below)) = inr (less, omega (arith, le, below))
before-later from first a b (inr (lt, below)) (inl (more, later)) = absurd (omega (arith, below, more))
before-later from first a b (inr (lt, below)) (inr (less, low)) = inl (omega (arith, lt), inl less)

-- from 0 on the order is that of the numbers
pub before-from_zero : (a b : ℕ) → a < b → IsBefore 0 a b
before-from_zero a b lt = inl (omega arith, inl lt)
