-- Why these links fit, or don't.
use Rattle.std.proofs.Common.{◌≡◌, ℕ, true, false, List, [], ◌∷◌, ◌++◌, length, length-append, take, Option, Some, None, ap, refl, sym, ◌∙◌, arith}
use Rattle.std.specs.Prelude.{codes}
use Rattle.std.proofs.lemmas.List.{take_at}
use Rattle.flux_outside.specs.Readers.{TakesAtMost}
use Rattle.flux_doors.specs.Texts.{ends, has_front}
use Rattle.flux_doors.specs.declared.framing.Framing.TheVariants.{Line}
use Rattle.flux_batches.specs.Links.{HadNotEnded}
use Rattle.flux_examples.specs.Links.{more_than_a_line, LinksFit, LinksMisfit}
use Rattle.flux_examples.proofs.Doors.{rose}

-- the first byte
abbrev pub byte_of : List ℕ → ℕ
byte_of [] = 0
byte_of (b ∷ bytes) = b

-- the first byte that is reported
abbrev pub told_byte : Option (List ℕ) → ℕ
told_byte None = 0
told_byte (Some bytes) = byte_of bytes

-- the one byte that a link had was taken, or none
one_taken : TakesAtMost 1024 (Some (codes "a")) (Some [])
one_taken = (codes "a", refl, omega arith)

none_taken : TakesAtMost 1024 (Some (codes "a")) (Some (codes "a"))
none_taken = ([], refl, omega arith)

-- nothing had been taken before the one read
at_once : (bytes : List ℕ) → HadNotEnded Line (Some bytes) (Some bytes)
at_once bytes = record { gone = []; is = refl; few = omega arith; unended = refl }

-- where the byte after a line is left, the line is gone
line_gone : (gone : List ℕ) → more_than_a_line ≡ gone ++ codes "b" → gone ≡ 97 ∷ 10 ∷ []
line_gone gone is =
    let two : length gone ≡ 2 = omega (arith, ap length is, length-append gone (codes "b")) in
    sym (take_at gone (codes "b") 2 two) ∙ sym (ap (take 2) is)

not_unended : HadNotEnded Line (Some more_than_a_line) (Some (codes "b")) → ⊥
not_unended had =
    let no : true ≡ false = ap (has_front (ends Line) []) (sym (line_gone had.gone had.is)) ∙ had.unended in absurd cc

pub fit : LinksFit
fit = record {
  line = refl;
  rest = refl;
  head = refl;
  unended = record { gone = codes "a"; is = refl; few = omega arith; unended = refl };
  no_further = record { taken = (more_than_a_line, refl, omega arith); unended = at_once more_than_a_line };
  sent = (refl, refl, refl, record { taken = one_taken; unended = at_once (codes "a") });
  failed = (rose, refl, record { taken = none_taken; unended = at_once (codes "a") });
  short = (refl, refl, record { taken = one_taken; unended = at_once (codes "a") });
  read_ = (refl, (refl, refl, refl, record { taken = one_taken; unended = at_once (codes "a") }), refl);
  items = refl;
}

pub misfit : LinksMisfit
misfit = record {
  line = λ is. let same : 5 ≡ 6 = ap length is in omega (arith, same);
  unended = not_unended;
  no_further = λ is. not_unended is.unended;
  sent_on = λ is. let no_further = is.3 in not_unended no_further.unended;
  sent = λ is. let same : 98 ≡ 97 = ap byte_of is.0 in omega (arith, same);
  short = λ is. let same : 1 ≡ 0 = is.0 in omega (arith, same);
  turned = λ are. let one = are.1 in let same : 98 ≡ 97 = ap byte_of one.0 in omega (arith, same);
  exchanged = λ are. let same : 98 ≡ 97 = ap told_byte are.0 in omega (arith, same);
  lost = λ are. let same : 1 ≡ 0 = ap length are.2 in omega (arith, same);
  items = λ is. let same : 0 ≡ 1 = ap length is in omega (arith, same);
}
