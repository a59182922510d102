-- Head lines that fit, and those that don't.
use Rattle.std.proofs.Common.{◌≡◌, ◌<◌, ◌^◌, ◌&&◌, ℕ, Bool, true, false, eqb, eq-eqb, List, ◌∷◌, length, drop, Option, Some, None, MatchOption, sym, ap, subst, ◌∙◌}
use Rattle.std.specs.List.{slice_get}
use Rattle.flux_journal.specs.declared.texts.Head.{Head}
use Rattle.flux_journal.specs.Formats.{head_line, IsHeadLine}
use Rattle.flux_journal.specs.Journals.{lines_of, is_headed}
use Rattle.flux_audit.specs.Verdicts.{FitsHead, HasHeadFor}

module _ (text first : List ℕ) (rest : List (List ℕ)) (flows : ℕ) (headed : is_headed text ≡ true)
    (lines : lines_of text ≡ first ∷ rest) (small : flows < 2 ^ 32) (few : length rest < 2 ^ 64) where
  -- a fitting head is a head line with these numbers
  pub head_is : HasHeadFor flows text → IsHeadLine first flows (length rest)
  head_is fits = record { small = small; fits = few; is = same there }
    where
      there : slice_get (first ∷ rest) 0 ≡ Some (head_line flows (length (drop 1 (first ∷ rest))))
      there = subst (λ (ls : List (List ℕ)). FitsHead true flows ls) lines
          (subst (λ (t : Bool). FitsHead t flows (lines_of text)) headed fits)

      same : Some first ≡ Some (head_line flows (length rest)) → first ≡ head_line flows (length rest)
      same e = cc

  pub no_head : ((f e : ℕ) → IsHeadLine first f e → ⊥) → HasHeadFor flows text → ⊥
  no_head none fits = none flows (length rest) (head_is fits)

  pub fits_head : IsHeadLine first flows (length rest) → HasHeadFor flows text
  fits_head h = subst (λ (t : Bool). FitsHead t flows (lines_of text)) (sym headed)
      (subst (λ (ls : List (List ℕ)). FitsHead true flows ls) (sym lines) (ap Some h.is))

  -- a head line's numbers are those that it gives
  pub told_other : (head : Head) (events : ℕ) → ((f e : ℕ) → IsHeadLine first f e → Some head ≡ Some (record { flows = f; events = e }))
      → events ≡ length rest → false ≡ (eqb head.flows flows && eqb head.events events) → HasHeadFor flows text → ⊥
  told_other head events once count differ fits =
      let same : Some head ≡ Some (record { flows = flows; events = length rest }) = once flows (length rest) (head_is fits) in
      let is : head ≡ record { flows = flows; events = length rest } = cc same in
      let first_ : eqb head.flows flows ≡ true = eq-eqb head.flows flows (ap (λ (h : Head). h.flows) is) in
      let second : eqb head.events events ≡ true = eq-eqb head.events events (ap (λ (h : Head). h.events) is ∙ sym count) in
      unlike (differ ∙ ap (λ (b : Bool). b && eqb head.events events) first_ ∙ second)
    where
      unlike : false ≡ true → ⊥
      unlike e = cc

pub at_none : {X : Type 0} {P : Type 0} (Q : X → Type 0) (r : Option X) → r ≡ None → P → MatchOption r P Q
at_none Q None is p = p
at_none Q (Some x) is p = absurd (unlike is)
  where
    unlike : Some x ≡ None → ⊥
    unlike e = cc
