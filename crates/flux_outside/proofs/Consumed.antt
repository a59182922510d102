-- What a reader has given so far.
use Rattle.std.proofs.Common.{◌≡◌, ℕ, ◌+◌, ◌≤◌, List, ◌++◌, length, length-append, take, Option, Some, None, refl, sym, ap, ◌∙◌, append_assoc, arith}
use Rattle.std.proofs.lemmas.List.{length-take}
use Rattle.std.specs.Io.KnownBytes.{Consumes}
use Rattle.flux_outside.specs.Readers.{TakesAtMost}

-- some bytes were consumed, and then some more
pub consumes_more : (before mid after : Option (List ℕ)) (first second : List ℕ) → Consumes before mid first → Consumes mid after second → Consumes before after (first ++ second)
consumes_more None mid after first second one two = tt
consumes_more (Some xs) None after first second one two = absurd one
consumes_more (Some xs) (Some ys) None first second one two = absurd two
consumes_more (Some xs) (Some ys) (Some zs) first second one two = one ∙ ap (λ (l : List ℕ). first ++ l) two ∙ sym (append_assoc first second zs)

-- a front of at most so many bytes, and then a part of one block
pub takes_block : (before mid after : Option (List ℕ)) (front block : List ℕ) (n max size : ℕ) → Consumes before mid front → length front ≤ max
    → Consumes mid after (take n block) → length block ≡ size → TakesAtMost (max + size) before after
takes_block before mid after front block n max size one fits two is =
    (front ++ take n block, consumes_more before mid after front (take n block) one two, grind (arith, length-append, length-take, fits, is))
