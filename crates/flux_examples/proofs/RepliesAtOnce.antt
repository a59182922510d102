-- Why these links fit, or don't.
use Rattle.std.proofs.Common.{◌≡◌, ℕ, true, false, [], ◌∷◌, codes, length, ap, refl, inl, inr, arith}
use Rattle.flux_outside.specs.Streams.{Stream}
use Rattle.flux_batches.specs.declared.reading.Sent.TheVariants.{Text}
use Rattle.flux_serve.specs.AtOnce.{IsAnsweredSoFar}
use Rattle.flux_examples.specs.SmallServing.{link}
use Rattle.flux_examples.specs.RepliesAtOnce.{so_far, AtOnceFits, AtOnceMisfits}
use Rattle.flux_examples.proofs.Doors.{rose, stands}
use Rattle.flux_examples.proofs.Replies.{count_of}

-- a link with no fault that was written one byte wasn't answered by two
not_one : (byte : ℕ) → IsAnsweredSoFar so_far 0 (link [] [] 0) (link [] (byte ∷ []) 0) (Text []) → ⊥
not_one byte (inl same) = let e : 1 ≡ 0 = ap (λ (s : Stream). count_of s.written) same in omega (arith, e)
not_one byte (inr (ended, inl wrote)) = let e : 1 ≡ 2 = ap count_of wrote.gains in omega (arith, e)
not_one byte (inr (ended, inr broke)) = stands broke.rose

-- a flow without its `end` has no reply yet
not_early : IsAnsweredSoFar so_far 1 (link [] [] 0) (link [] (codes "b") 0) (Text []) → ⊥
not_early (inl same) = let e : 1 ≡ 0 = ap (λ (s : Stream). count_of s.written) same in omega (arith, e)
not_early (inr (ended, wrote)) = let e : false ≡ true = ended in absurd cc

pub fit : AtOnceFits
fit = record {
  ended = inl refl;
  live = inl refl;
  whole = inr (refl, inl (record { gains = refl; steady = refl }));
  front = inr (refl, inr (record { front = codes "a"; rest = codes "c"; is = refl; left = λ none. let same : 1 ≡ 0 = ap length none in omega (arith, same); gains = refl; rose = rose }));
  each = ((refl, refl, refl), inr (refl, inl (record { gains = refl; steady = refl })), ((refl, refl, refl), inl refl, tt));
}

pub misfit : AtOnceMisfits
misfit = record {
  early = not_early;
  front = not_one 97;
  other = not_one 98;
  failed = λ is. let same : 2 ≡ 0 = ap (λ (s : Stream). count_of s.written) is in omega (arith, same);
  lost = λ are. are.2;
}
