-- A program has only one report.
use Rattle.std.proofs.Common.{◌≡◌, ℕ, inl, inr, List, [], ◌∷◌, ◌++◌, length, codes, refl, sym, ap, ◌∙◌, arith}
use Rattle.std.specs.List.{range_with_len}
use Rattle.flux_model.specs.declared.programs.Hold.{Hold}
use Rattle.flux_model.specs.declared.programs.NodeNo.{NodeNo}
use Rattle.flux_model.specs.declared.programs.Program.{Program}
use Rattle.flux_model.specs.Locks.{declared, HasClass, HasAtLeast, Holds}
use Rattle.flux_hoist.specs.Reports.{IsLine, line_of, IsSaid, AreSaid, ArePieces, IsReport}

pieces_once : {X : Type 0} (Is : X → List ℕ → Type 0) → ((x : X) (a b : List ℕ) → Is x a → Is x b → a ≡ b) → (xs : List X) (a b : List ℕ) → ArePieces Is xs a → ArePieces Is xs b → a ≡ b
pieces_once Is each [] a b first second = first ∙ sym second
pieces_once Is each (x ∷ xs) a b (front, rest, own, others, same) (front', rest', own', others', same') =
    same ∙ (λ i. each x front front' own own' i ++ pieces_once Is each xs rest rest' others others' i) ∙ sym same'

module _ (p : Program) (top : ℕ) (hold : Hold) where
  line_once : (word a b : List ℕ) → IsLine p top word hold a → IsLine p top word hold b → a ≡ b
  line_once word a b x y = x.text_ ∙ ap (line_of p top word hold) same ∙ sym y.text_
    where
      number : x.cause.0 ≡ y.cause.0
      number =
          let up = x.is.lowest y.cause.0 y.is.below y.is.declares in
          let down = y.is.lowest x.cause.0 x.is.below x.is.declares in
          omega (arith, up, down)

      same : x.cause ≡ y.cause
      same = λ i. record { 0 = number i }

  has_class : HasAtLeast (declared p top) hold → HasClass (declared p top) hold.class
  has_class more = (more.mode, more.has)

  said_once : (a b : List ℕ) → IsSaid p top hold a → IsSaid p top hold b → a ≡ b
  said_once a b (inl (kept, none)) (inl (again, other)) = none ∙ sym other
  said_once a b (inl (kept, none)) (inr (inl (new, line))) = absurd (new (has_class kept))
  said_once a b (inl (kept, none)) (inr (inr ((has, less), line))) = absurd (less kept)
  said_once a b (inr (inl (new, line))) (inl (kept, none)) = absurd (new (has_class kept))
  said_once a b (inr (inl (new, line))) (inr (inl (again, other))) = line_once (codes " adds ") a b line other
  said_once a b (inr (inl (new, line))) (inr (inr ((has, less), other))) = absurd (new has)
  said_once a b (inr (inr ((has, less), line))) (inl (kept, none)) = absurd (less kept)
  said_once a b (inr (inr ((has, less), line))) (inr (inl (new, other))) = absurd (new has)
  said_once a b (inr (inr ((has, less), line))) (inr (inr (again, other))) = line_once (codes " raises ") a b line other

pub report_once : (p : Program) (locks : Holds) (text other : List ℕ) → IsReport p locks text → IsReport p locks other → text ≡ other
report_once p locks text other a b =
    a.is ∙ ap (λ (lines : List ℕ). lines ++ codes "ok\n") lines ∙ sym b.is
  where
    lines : a.lines ≡ b.lines
    lines = pieces_once (AreSaid p locks) (λ number x y. pieces_once (IsSaid p number) (said_once p number) (locks number) x y) (range_with_len 0 (length p.nodes)) a.lines b.lines a.said b.said
