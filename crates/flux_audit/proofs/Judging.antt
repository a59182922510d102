-- A text has one verdict.
use Rattle.std.proofs.Common.{◌≡◌, inl, inr, ℕ, List, [], ◌∷◌, length, get_or, refl, sym, ap, ◌∙◌, arith}
use Rattle.flux_model.specs.Names.{IsNamed}
use Rattle.flow_model.specs.declared.journals.Journal.{Journal}
use Rattle.flow_model.specs.Setup.{Setup}
use Rattle.flux_audit.specs.declared.verdicts.Rule.{Rule}
use Rattle.flux_audit.specs.declared.verdicts.Rule.TheVariants as rules
use Rattle.flux_audit.specs.declared.verdicts.Verdict.{Verdict}
use Rattle.flux_audit.specs.declared.verdicts.Verdict.TheVariants.{Yes, No}
use Rattle.flux_audit.specs.Verdicts.{IsTrueText, rank, IsNotLater, IsFirstBroken, HasVerdict}
use Rattle.flux_audit.proofs.Passing.{true_unbroken, true_once}

-- the rules in order, and each at its rank
abbrev in_order : List Rule
in_order = rules.Head ∷ rules.Head ∷ rules.Text ∷ rules.Flow ∷ rules.Path ∷ rules.Answer ∷ rules.Hold ∷ rules.Turn
    ∷ rules.Wait ∷ rules.Short ∷ []

ranked : (rule : Rule) → get_or in_order (rank rule) rules.Head ≡ rule
ranked rules.Head = refl
ranked rules.Text = refl
ranked rules.Flow = refl
ranked rules.Path = refl
ranked rules.Answer = refl
ranked rules.Hold = refl
ranked rules.Turn = refl
ranked rules.Wait = refl
ranked rules.Short = refl

rank_once : (a b : Rule) → rank a ≡ rank b → a ≡ b
rank_once a b e = sym (ranked a) ∙ ap (λ (n : ℕ). get_or in_order n rules.Head) e ∙ ranked b

-- of two that aren't later than each other
both_first : (m n : ℕ) (a b : Rule) → IsNotLater m a n b → IsNotLater n b m a → (m ≡ n) × (a ≡ b)
both_first m n a b (inl lt) (inl gt) = absurd (omega (arith, lt, gt))
both_first m n a b (inl lt) (inr (same, le)) = absurd (omega (arith, lt, same))
both_first m n a b (inr (same, le)) (inl gt) = absurd (omega (arith, gt, same))
both_first m n a b (inr (same, le)) (inr (again, ge)) =
    let ranks : rank a ≡ rank b = omega (arith, le, ge) in
    (same, rank_once a b ranks)

module _ (setup : Setup) (named : IsNamed setup.program) (text : List ℕ) where
  -- a true text has the verdict yes
  pub yes_once : (verdict : Verdict) → HasVerdict setup text verdict → (journal : Journal)
      → IsTrueText setup text journal → verdict ≡ Yes (length journal.entries)
  yes_once (Yes events) (own, is, count) journal true_ =
      ap Yes (count ∙ ap length (true_once setup named text own journal is true_))
  yes_once (No line rule) first journal true_ =
      absurd (true_unbroken setup named text journal true_ line rule first.breaks)

  -- and one with a broken rule the verdict no, with the first
  pub no_once : (verdict : Verdict) → HasVerdict setup text verdict → (line : ℕ) (rule : Rule)
      → IsFirstBroken setup text line rule → verdict ≡ No line rule
  no_once (Yes events) (own, is, count) line rule first =
      absurd (true_unbroken setup named text own is line rule first.breaks)
  no_once (No own its) is line rule first =
      let same = both_first own line its rule (is.first line rule first.breaks) (first.first own its is.breaks) in
      ap (λ (n : ℕ). No n its) same.0 ∙ ap (No line) same.1

pub one_verdict : (setup : Setup) (text : List ℕ) (first second : Verdict) → IsNamed setup.program
    → HasVerdict setup text first → HasVerdict setup text second → first ≡ second
one_verdict setup text (Yes events) second named (own, is, count) has =
    ap Yes count ∙ sym (yes_once setup named text second has own is)
one_verdict setup text (No line rule) second named first has = sym (no_once setup named text second has line rule first)
