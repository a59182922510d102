-- Names with arrows between them, one after the other.
use Rattle.std.proofs.Common.{◌≡◌, ℕ, zero, suc, ◌+◌, ◌<◌, Bool, cond, eqb, List, [], ◌∷◌, ◌++◌, length, take, get_or, codes, refl, sym, ap, ◌∙◌, arith, append_assoc}
use Rattle.std.proofs.lemmas.Bool.{ne_eqb}
use Rattle.std.proofs.lemmas.List.{take_more}
use Rattle.flux_faults.specs.Faults.{arrows}

abbrev mark : List (List ℕ) → List ℕ
mark [] = []
mark (name ∷ names) = codes " -> "

arrows_push : (names : List (List ℕ)) (name : List ℕ) → arrows (names ++ name ∷ []) ≡ arrows names ++ (mark names ++ name)
arrows_push [] name = refl
arrows_push (first ∷ []) name = append_assoc first (codes " -> ") name
arrows_push (first ∷ next ∷ names) name =
    ap (λ (l : List ℕ). (first ++ codes " -> ") ++ l) (arrows_push (next ∷ names) name)
    ∙ sym (append_assoc (first ++ codes " -> ") (arrows (next ∷ names)) (codes " -> " ++ name))

mark_at : (names : List (List ℕ)) (i : ℕ) → i < length names → mark (take i names) ≡ cond (eqb i 0) [] (codes " -> ")
mark_at names zero lt = refl
mark_at [] (suc i) lt = absurd (omega arith)
mark_at (name ∷ names) (suc i) lt = sym (ap (λ (b : Bool). cond b [] (codes " -> ")) (ne_eqb (suc i) 0 (λ (e : suc i ≡ 0). omega arith)))

-- one name more has been written
pub arrows_next : (names : List (List ℕ)) (i : ℕ) (d name : List ℕ) → i < length names → name ≡ get_or names i d → arrows (take (i + 1) names) ≡ arrows (take i names) ++ (cond (eqb i 0) [] (codes " -> ") ++ name)
arrows_next names i d name lt is =
    ap arrows (take_more names i d lt ∙ ap (λ (n : List ℕ). take i names ++ n ∷ []) (sym is))
    ∙ arrows_push (take i names) name
    ∙ ap (λ (m : List ℕ). arrows (take i names) ++ (m ++ name)) (mark_at names i lt)
