-- What follows blanks, and the lines that are passed over.
use Rattle.std.proofs.Common.{◌≡◌, ◌↔◌, ◌⊎◌, inl, inr, ℕ, ◌&&◌, Bool, true, false, eqb, IsTrue, List, [], ◌∷◌, ◌++◌, length, drop, Option, Some, None, is_some, IfSome, IfNone, refl, sym, ap, ◌∙◌, subst, arith}
use Rattle.std.proofs.lemmas.Bool.{false≢true}
use Rattle.std.proofs.lemmas.Bool.Decides.{nat_tests}
use Rattle.std.specs.List.{prefix_len, list_all}
use Rattle.std.proofs.Math.Numerals.{one-add}
use Rattle.std.proofs.lemmas.List.{append-nil}
use Rattle.flux_items.specs.Lines.{is_blank, AreBlanks, IsComment, IsPassedOver}
use Rattle.flux_items.specs.steps.Fronts.{past_blanks}

pub and_left : (a b : Bool) → (a && b) ≡ true → a ≡ true
and_left true b e = refl
and_left false b e = absurd cc

pub and_right : (a b : Bool) → (a && b) ≡ true → b ≡ true
and_right true b e = e
and_right false b e = absurd cc

-- bytes without the blanks at their front are a rest
pub dropped : (bytes : List ℕ) → drop (prefix_len is_blank bytes) bytes ≡ past_blanks bytes
dropped [] = refl
dropped (b ∷ bytes) = one (is_blank b) refl (dropped bytes)
  where
    one : (t : Bool) → is_blank b ≡ t → drop (prefix_len is_blank bytes) bytes ≡ past_blanks bytes → drop (prefix_len is_blank (b ∷ bytes)) (b ∷ bytes) ≡ past_blanks (b ∷ bytes)
    one true e more = rw (e, one-add) more
    one false e more = rw e refl

-- after a front of blanks
pub record Blanked (bytes : List ℕ) : Type 0 where
  pub front : List ℕ
  pub blanks : AreBlanks front
  pub laid : bytes ≡ front ++ past_blanks bytes

pub blanked : (bytes : List ℕ) → Blanked bytes
blanked [] = record { front = []; blanks = refl; laid = refl }
blanked (b ∷ bytes) = one (is_blank b) refl (blanked bytes)
  where
    one : (t : Bool) → is_blank b ≡ t → Blanked bytes → Blanked (b ∷ bytes)
    one true e more = record { front = b ∷ more.front; blanks = rw e more.blanks; laid = rw e (ap (λ (l : List ℕ). b ∷ l) more.laid) }
    one false e more = record { front = []; blanks = refl; laid = rw e refl }

-- more blanks at the front don't count
pub past_front : (front rest : List ℕ) → AreBlanks front → past_blanks (front ++ rest) ≡ past_blanks rest
past_front [] rest all = refl
past_front (b ∷ front) rest all = rw (and_left (is_blank b) (list_all is_blank front) all) (past_front front rest (and_right (is_blank b) (list_all is_blank front) all))

pub past_other : (b : ℕ) (rest : List ℕ) → is_blank b ≡ false → past_blanks (b ∷ rest) ≡ b ∷ rest
past_other b rest e = rw e refl

pub past_all : (bytes : List ℕ) → AreBlanks bytes → past_blanks bytes ≡ []
past_all bytes all = ap past_blanks (sym (append-nil bytes)) ∙ past_front bytes [] all

-- ---- lines that are passed over

over_empty : (line : List ℕ) → past_blanks line ≡ [] → IsPassedOver line
over_empty line e =
    let b = blanked line in
    inl (subst AreBlanks (sym (b.laid ∙ ap (λ (l : List ℕ). b.front ++ l) e ∙ append-nil b.front)) b.blanks)

over_comment : (line rest : List ℕ) → past_blanks line ≡ 35 ∷ rest → IsPassedOver line
over_comment line rest e =
    let b = blanked line in
    inr (record { front = b.front; rest = rest; blanks = b.blanks; laid = b.laid ∙ ap (λ (l : List ℕ). b.front ++ l) e })

-- what is passed over has nothing after its blanks, or a `#`
pub over_is : (line : List ℕ) → IsPassedOver line → (past_blanks line ≡ []) ⊎ (past_blanks line ≡ 35 ∷ drop 1 (past_blanks line))
over_is line (inl all) = inl (past_all line all)
over_is line (inr c) =
    let e = ap past_blanks c.laid ∙ past_front c.front (35 ∷ c.rest) c.blanks in
    inr (e ∙ ap (λ (l : List ℕ). 35 ∷ drop 1 l) (sym e))

-- a line is passed over exactly where these two tests say so
pub over_first : (line text : List ℕ) (r : Bool) → text ≡ past_blanks line → r ≡ eqb (length text) 0 → r ≡ true → IsTrue r ↔ IsPassedOver line
over_first line text r same test so = (λ _. over_empty line (empty text (test_zero (length text) (sym test ∙ so)) same), λ _. so)
  where
    test_zero : (n : ℕ) → eqb n 0 ≡ true → n ≡ 0
    test_zero n e = grind (arith, nat_tests)

    empty : (t : List ℕ) → length t ≡ 0 → t ≡ past_blanks line → past_blanks line ≡ []
    empty [] e is = sym is
    empty (b ∷ t) e is = absurd (omega (arith, e))

pub over_then : {X : Type 0} (f : X → List ℕ) (line text : List ℕ) (o : Option X) (empty r : Bool) → text ≡ past_blanks line → empty ≡ eqb (length text) 0 → empty ≡ false
    → IfSome o (λ x. text ≡ 35 ∷ f x) → IfNone o ((rest : List ℕ) → text ≡ 35 ∷ rest → ⊥) → r ≡ is_some o → IsTrue r ↔ IsPassedOver line
over_then f line text (Some x) empty r same test not_empty found none is = (λ _. over_comment line (f x) (sym same ∙ found), λ _. is)
over_then f line text None empty r same test not_empty found none is = (λ so. absurd (false≢true (sym is ∙ so)), λ over. absurd (never (over_is line over)))
  where
    never : (past_blanks line ≡ []) ⊎ (past_blanks line ≡ 35 ∷ drop 1 (past_blanks line)) → ⊥
    never (inl e) = false≢true (sym not_empty ∙ test ∙ ap (λ (l : List ℕ). eqb (length l) 0) (same ∙ e))
    never (inr e) = none (drop 1 (past_blanks line)) (same ∙ e)
