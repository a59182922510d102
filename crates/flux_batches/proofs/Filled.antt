-- A buffer that is filled from a link.
use Rattle.std.proofs.Common.{◌≡◌, ℕ, zero, suc, ◌+◌, ◌<◌, ◌≤◌, true, false, List, [], ◌++◌, length, length-append, take, Option, Some, None, sym, ap, ◌∙◌, arith, subst}
use Rattle.std.specs.Prelude.{IfSome}
use Rattle.std.proofs.Math.Seq.{take-append-add, take-append-le}
use Rattle.std.proofs.lemmas.List.{length-take-le}
use Rattle.std.specs.Io.KnownBytes.{Consumes, IsAtEnd}
use Rattle.flux_outside.proofs.Consumed.{consumes_more}
use Rattle.flux_doors.specs.declared.framing.Framing.{Framing}
use Rattle.flux_doors.specs.Texts.{ends, least_front, has_front, trimmed, limit_of, text_of}
use Rattle.flux_doors.specs.declared.framing.Framing.TheVariants.{Head, Line}
use Rattle.flux_batches.specs.Links.{HadNotEnded}
use Rattle.flux_doors.proofs.Fronts.{no-end-first, text-found, text-full, text-all}

-- a front, and a part that was read after it
pub filled-is : (buffer part rest : List ℕ) (filled count : ℕ) → filled ≤ length buffer → count ≤ length part → take (filled + count) (take filled buffer ++ (part ++ rest)) ≡ take filled buffer ++ take count part
filled-is buffer part rest filled count has fits =
    let size : length (take filled buffer) ≡ filled = length-take-le filled buffer has in
    ap (λ n. take (n + count) (take filled buffer ++ (part ++ rest))) (sym size)
    ∙ take-append-add (take filled buffer) (part ++ rest) count ∙ ap (λ l. take filled buffer ++ l) (take-append-le count part rest fits)

pub filled-more : (before mid after : Option (List ℕ)) (buffer part rest : List ℕ) (filled count : ℕ) → filled ≤ length buffer → count ≤ length part → Consumes before mid (take filled buffer) → Consumes mid after (take count part)
    → Consumes before after (take (filled + count) (take filled buffer ++ (part ++ rest)))
filled-more before mid after buffer part rest filled count has fits first second =
    let P : List ℕ → Type 0 = λ l. Consumes before after l in
    subst P (sym (filled-is buffer part rest filled count has fits)) (consumes_more before mid after (take filled buffer) (take count part) first second)

pub filled-fits : (buffer part rest : List ℕ) (filled count : ℕ) → filled ≤ length buffer → count ≤ length part → filled + count ≤ length (take filled buffer ++ (part ++ rest))
filled-fits buffer part rest filled count has fits =
    omega (arith, length-append (take filled buffer) (part ++ rest), length-append part rest, length-take-le filled buffer has, fits)

-- ---- what was read, where links tell what they have

pub read-found : (framing : Framing) (before after : Option (List ℕ)) (xs : List ℕ) → Consumes before after xs → length xs ≤ limit_of framing → has_front (ends framing) [] xs ≡ true
    → IfSome before (λ left. trimmed framing (least_front (ends framing) xs) ≡ text_of framing left)
read-found framing None after xs is fits has = tt
read-found framing (Some left) None xs is fits has = absurd is
read-found framing (Some left) (Some ys) xs is fits has = text-found framing xs ys left is fits has

pub read-full : (framing : Framing) (before after : Option (List ℕ)) (xs : List ℕ) → Consumes before after xs → length xs ≡ limit_of framing
    → IfSome before (λ left. trimmed framing (least_front (ends framing) xs) ≡ text_of framing left)
read-full framing None after xs is full = tt
read-full framing (Some left) None xs is full = absurd is
read-full framing (Some left) (Some ys) xs is full = text-full framing xs ys left is full

pub read-all : (framing : Framing) (before after : Option (List ℕ)) (xs : List ℕ) → Consumes before after xs → length xs ≤ limit_of framing → IsAtEnd after
    → IfSome before (λ left. trimmed framing (least_front (ends framing) xs) ≡ text_of framing left)
read-all framing None after xs is fits end = tt
read-all framing (Some left) None xs is fits end = absurd is
read-all framing (Some left) (Some ys) xs is fits end = text-all framing xs ys left is fits end

-- ---- the text hadn't ended before the last read

-- a text may have some bytes
pub some-limit : (framing : Framing) → 0 < limit_of framing
some-limit Head = omega arith
some-limit Line = omega arith

-- a text that has ended has some bytes
pub ended-some : (framing : Framing) (buffer : List ℕ) (filled : ℕ) → has_front (ends framing) [] (take filled buffer) ≡ true → 0 < filled
ended-some framing buffer zero has = let no : false ≡ true = sym (no-end-first framing) ∙ has in absurd cc
ended-some framing buffer (suc filled) has = omega arith

-- one more read, after a front that was read and in which the text hasn't ended
pub unended-read : (framing : Framing) (before mid at : Option (List ℕ)) (buffer : List ℕ) (filled : ℕ) → Consumes before mid (take filled buffer) → at ≡ mid
    → filled ≤ length buffer → filled < limit_of framing → has_front (ends framing) [] (take filled buffer) ≡ false → HadNotEnded framing before at
unended-read framing before mid at buffer filled is same has few none =
    let P : Option (List ℕ) → Type 0 = λ left. HadNotEnded framing before left in
    subst P (sym same) (record {
      gone = take filled buffer;
      is = is;
      few = omega (arith, length-take-le filled buffer has, few);
      unended = none;
    })
