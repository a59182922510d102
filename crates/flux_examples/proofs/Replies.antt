-- Why these replies fit, or don't.
use Rattle.std.proofs.Common.{◌≡◌, ℕ, List, [], ◌∷◌, codes, length, Option, Some, None, ap, refl, inl, inr, arith}
use Rattle.flux_outside.specs.Streams.{Stream}
use Rattle.flux_batches.specs.declared.reading.Sent.TheVariants.{Text}
use Rattle.flux_batches.specs.Replies.{IsAnswered}
use Rattle.flux_examples.specs.SmallServing.{link, told, spoken, echoed}
use Rattle.flux_examples.specs.Replies.{RepliesFit, RepliesMisfit}
use Rattle.flux_examples.proofs.Doors.{rose, stands}
use Rattle.flux_examples.proofs.Links.{told_byte}

-- how many bytes are reported
abbrev pub count_of : Option (List ℕ) → ℕ
count_of None = 0
count_of (Some bytes) = length bytes

-- a link with no fault that was written one byte wasn't answered
not_one : (byte : ℕ) → IsAnswered spoken 0 (link [] [] 0) (link [] (byte ∷ []) 0) (Text []) → ⊥
not_one byte (inl wrote) = let same : 1 ≡ 2 = ap count_of wrote.gains in omega (arith, same)
not_one byte (inr broke) = stands broke.rose

-- a link with no fault that was written another byte wasn't either
not_other : IsAnswered echoed 0 (told (codes "a") []) (told (codes "a") (codes "q")) (Text (codes "a")) → ⊥
not_other (inl wrote) = let same : 113 ≡ 112 = ap told_byte wrote.gains in omega (arith, same)
not_other (inr broke) = stands broke.rose

pub fit : RepliesFit
fit = record {
  first = refl;
  second = refl;
  whole = inl (record { gains = refl; steady = refl });
  front = inr (record { front = codes "a"; rest = codes "c"; is = refl; left = λ none. let same : 1 ≡ 0 = ap length none in omega (arith, same); gains = refl; rose = rose });
  nothing = refl;
  each = (
    (refl, refl, refl),
    inl (record { gains = refl; steady = refl }),
    ((refl, refl, refl), inl (record { gains = refl; steady = refl }), refl),
  );
  next = refl;
  same = refl;
}

pub misfit : RepliesMisfit
misfit = record {
  front = not_one 97;
  other = not_one 98;
  failed = λ is. let same : 2 ≡ 0 = ap (λ (s : Stream). count_of s.written) is in omega (arith, same);
  crossed = λ are. not_other are.1;
  exchanged = λ are. let is = are.0 in let same : 98 ≡ 97 = ap told_byte is.0 in omega (arith, same);
  read_on = λ are. let is = are.0 in let same : 0 ≡ 1 = ap count_of is.1 in omega (arith, same);
}
