-- The parts of a head lie in the text that it begins.
use Rattle.std.proofs.Common.{◌≡◌, ℕ, ◌+◌, ◌≤◌, List, [], ◌∷◌, ◌++◌, length, take, ap, subst, ◌∙◌, arith, length-append, length-take}
use Rattle.std.specs.List.{All}
use Rattle.std.proofs.lemmas.List.Elements.{All-nil, All-cons, All-head, All-tail}
use Rattle.httparse.specs.Grammar.{RequestHead, print_blank}
use Rattle.httparse.proofs.GrammarLemmas.{print_request-append}
use Rattle.nodes_web.specs.Heads.{IsHeadOf}

pub cut_fits : (n : ℕ) (text : List ℕ) → length (take n text) ≤ length text
cut_fits n text = simp length-take (omega arith)

lengths : (text a m t more : List ℕ) → text ≡ a ++ (m ++ 32 ∷ (t ++ 32 ∷ more)) → length m + length t ≤ length text
lengths text a m t more e =
    omega (arith, ap length e, length-append a (m ++ 32 ∷ (t ++ 32 ∷ more)), length-append m (32 ∷ (t ++ 32 ∷ more)), length-append t (32 ∷ more))

-- a head's method and target are together no longer than the text
pub head_fits : (text : List ℕ) (head : RequestHead) → IsHeadOf text head → length head.method + length head.target ≤ length text
head_fits text head is = lengths text (print_blank head.blank) head.method head.target _ (is.reads.1 ∙ print_request-append head is.rest)

module _ (P : ℕ → Type 0) where
  all_left : (a b : List ℕ) → All P (a ++ b) → All P a
  all_left [] b all = All-nil P
  all_left (x ∷ a) b all = All-cons P x a (All-head P x (a ++ b) all) (all_left a b (All-tail P x (a ++ b) all))

  all_right : (a b : List ℕ) → All P (a ++ b) → All P b
  all_right [] b all = all
  all_right (x ∷ a) b all = all_right a b (All-tail P x (a ++ b) all)

  parts : (text a m t more : List ℕ) → text ≡ a ++ (m ++ 32 ∷ (t ++ 32 ∷ more)) → All P text → All P m × All P t
  parts text a m t more e all =
      let after = all_right a (m ++ 32 ∷ (t ++ 32 ∷ more)) (subst (All P) e all) in
      (all_left m (32 ∷ (t ++ 32 ∷ more)) after, all_left t (32 ∷ more) (All-tail P 32 (t ++ 32 ∷ more) (all_right m (32 ∷ (t ++ 32 ∷ more)) after)))

  -- what holds of each byte of the text holds of those of the method and the target
  pub head_parts : (text : List ℕ) (head : RequestHead) → IsHeadOf text head → All P text → All P head.method × All P head.target
  head_parts text head is all = parts text (print_blank head.blank) head.method head.target _ (is.reads.1 ∙ print_request-append head is.rest) all
