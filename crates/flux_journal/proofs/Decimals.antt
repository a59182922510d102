-- The digits of a number of 64 bits.
use Rattle.std.proofs.Common.{◌≡◌, ℕ, ◌+◌, ◌-◌, ◌/◌, ◌^◌, ◌<◌, ◌≤◌, List, ◌++◌, length, take, drop, refl, sym, ap, ◌∙◌, arith, length-append}
use Rattle.std.proofs.lemmas.Fmt.{decimal_digit, decimal_step, length-decimal-le}
use Rattle.std.proofs.lemmas.List.{drop-take, drop-append-le, length-drop, length-take-le}
use Rattle.std.proofs.lemmas.Slice.{take-put_mid}
use Rattle.std.proofs.Math.Seq.{take-append_seam}
use borrow.Rule.Slice.PartMut.{put_mid}
use Rattle.std.specs.Fmt.{decimal}

pub length_all : (n : ℕ) → n < 2 ^ 64 → length (decimal n) ≤ 20
length_all n h = length-decimal-le 20 n (omega arith) (omega arith) h

pub length_one : (n : ℕ) → n < 10 → length (decimal n) ≡ 1
length_one n h = ap length (decimal_digit n h)

pub length_step : (n : ℕ) → 10 ≤ n → n < 2 ^ 64 → length (decimal n) ≡ length (decimal (n / 10)) + 1
length_step n low h = ap length (decimal_step n low h) ∙ length-append _ _

-- a number's digits and what is laid after them
pub piece_is : (n start k : ℕ) (laid rest behind : List ℕ) → start ≤ 20 → length laid ≡ 20 + length rest
    → drop start laid ≡ decimal n ++ rest → take (20 + length behind - start) (drop start (put_mid 20 k laid behind)) ≡ decimal n ++ behind
piece_is n start k laid rest behind early room written =
    let e : start + (20 + length behind - start) ≡ 20 + length behind = omega arith in
    let e20 : start + (20 - start) ≡ 20 = omega arith in
    let long : length (decimal n) ≡ 20 - start = omega (arith, ap length written, length-append (decimal n) rest, length-drop start laid) in
    let digits : drop start (take 20 laid) ≡ decimal n =
    ap (λ (m : ℕ). drop start (take m laid)) (sym e20) ∙ drop-take start (20 - start) laid ∙ ap (take (20 - start)) written
    ∙ ap (λ (m : ℕ). take m (decimal n ++ rest)) (sym long) ∙ take-append_seam (decimal n) rest in
    sym (drop-take start (20 + length behind - start) (put_mid 20 k laid behind)) ∙ ap (λ (m : ℕ). drop start (take m (put_mid 20 k laid behind))) e
    ∙ ap (drop start) (take-put_mid 20 k laid behind (20 + length behind) refl (omega arith))
    ∙ drop-append-le start (take 20 laid) behind (omega (arith, length-take-le 20 laid (omega arith)))
    ∙ ap (λ (s : List ℕ). s ++ behind) digits
