-- A text's spelling is cut into pieces in one way, so what is after its pieces decides how it goes on.
use Rattle.std.proofs.Common.{◌≡◌, ◌⊎◌, inl, inr, ℕ, List, [], ◌∷◌, ◌++◌, length, take, refl, sym, ap, ◌∙◌, subst, append_assoc}
use Rattle.std.specs.List.{concat}
use Rattle.std.proofs.lemmas.List.{append-nil, append_cancel_left}
use Rattle.std.proofs.lemmas.List.Folds.{concat-append}
use Rattle.std.proofs.Math.Seq.{take-append_seam}
use Rattle.flux_spelling.specs.declared.reading.Piece.TheVariants as pieces
use Rattle.flux_values.specs.Spellings.{SpellsByte, SpellEach}
use Rattle.flux_spelling.specs.steps.Pieces.{piece_of}
use Rattle.flux_spelling.proofs.Pieces.{spells_is}

-- two pieces at one front are one
record SamePiece (p q x y : List ℕ) (b c : ℕ) : Type 0 where
  piece : p ≡ q
  byte : b ≡ c
  rest : x ≡ y

piece_length : (b c n m : ℕ) → pieces.Spells b n ≡ pieces.Spells c m → (b ≡ c) × (n ≡ m)
piece_length b c n m e = (cc, cc)

same_piece : (p q x y : List ℕ) (b c : ℕ) → SpellsByte p b → SpellsByte q c → p ++ x ≡ q ++ y → SamePiece p q x y b c
same_piece p q x y b c s t e =
    let found : pieces.Spells b (length p) ≡ pieces.Spells c (length q) = sym (spells_is p x b s) ∙ ap piece_of e ∙ spells_is q y c t in
    let parts = piece_length b c (length p) (length q) found in
    let same : p ≡ q = sym (take-append_seam p x) ∙ ap (take (length p)) e ∙ ap (λ (n : ℕ). take n (q ++ y)) parts.1 ∙ take-append_seam q y in
    record { piece = same; byte = parts.0; rest = append_cancel_left q x y (subst (λ (f : List ℕ). f ++ x ≡ q ++ y) same e) }

-- no piece begins with a quote, or where none is found
pub none_found : (q y x : List ℕ) (c k : ℕ) → SpellsByte q c → x ≡ q ++ y → piece_of x ≡ pieces.Stops k → ⊥
none_found q y x c k s is stops = let e : pieces.Spells c (length q) ≡ pieces.Stops k = sym (spells_is q y c s) ∙ ap piece_of (sym is) ∙ stops in absurd cc

pub no_quote : (q y z : List ℕ) (c : ℕ) → SpellsByte q c → 34 ∷ z ≡ q ++ y → ⊥
no_quote q y z c s is = none_found q y (34 ∷ z) c 0 s is refl

-- pieces go on with more pieces
pub record GoesOn (t u x y : List ℕ) : Type 0 where
  pub more : List (List ℕ)
  pub text : List ℕ
  pub each : SpellEach more text
  pub whole : u ≡ t ++ text
  pub rest : x ≡ concat more ++ y

-- of two ways to cut one list into pieces and a rest, one goes on with more pieces than the other
pub cut_alike : (ps qs : List (List ℕ)) (t u x y : List ℕ) → SpellEach ps t → SpellEach qs u → concat ps ++ x ≡ concat qs ++ y → GoesOn t u x y ⊎ GoesOn u t y x
cut_alike [] qs [] u x y s r e = inl (record { more = qs; text = u; each = r; whole = refl; rest = e })
cut_alike [] qs (b ∷ t) u x y s r e = absurd s
cut_alike (p ∷ ps) qs [] u x y s r e = absurd s
cut_alike (p ∷ ps) [] (b ∷ t) [] x y s r e = inr (record { more = p ∷ ps; text = b ∷ t; each = s; whole = refl; rest = sym e })
cut_alike (p ∷ ps) [] (b ∷ t) (c ∷ u) x y s r e = absurd r
cut_alike (p ∷ ps) (q ∷ qs) (b ∷ t) [] x y s r e = absurd r
cut_alike (p ∷ ps) (q ∷ qs) (b ∷ t) (c ∷ u) x y s r e =
    let one = same_piece p q (concat ps ++ x) (concat qs ++ y) b c s.0 r.0 (sym (append_assoc p (concat ps) x) ∙ e ∙ append_assoc q (concat qs) y) in
    elim (cut_alike ps qs t u x y s.1 r.1 one.rest) [
      | inl on ↦ inl (record { more = on.more; text = on.text; each = on.each; whole = cc; rest = on.rest })
      | inr on ↦ inr (record { more = on.more; text = on.text; each = on.each; whole = cc; rest = on.rest })
    ]

closed_there : (t u x z : List ℕ) (more : List (List ℕ)) (text : List ℕ) → SpellEach more text → t ≡ u ++ text → 34 ∷ z ≡ concat more ++ x → GoesOn t u x (34 ∷ z)
closed_there t u x z [] [] each whole rest = record { more = []; text = []; each = tt; whole = sym (append-nil t ∙ whole ∙ append-nil u); rest = sym rest }
closed_there t u x z [] (b ∷ text) each whole rest = absurd each
closed_there t u x z (q ∷ qs) [] each whole rest = absurd each
closed_there t u x z (q ∷ qs) (b ∷ text) each whole rest = absurd (no_quote q (concat qs ++ x) z b each.0 (rest ∙ append_assoc q (concat qs) x))

-- a text that is closed goes on from pieces of its own
pub goes_on : (ps qs : List (List ℕ)) (t u x z : List ℕ) → SpellEach ps t → SpellEach qs u → concat ps ++ x ≡ concat qs ++ 34 ∷ z → GoesOn t u x (34 ∷ z)
goes_on ps qs t u x z s r e = elim (cut_alike ps qs t u x (34 ∷ z) s r e) [
  | inl on ↦ on
  | inr on ↦ closed_there t u x z on.more on.text on.each on.whole on.rest
]

-- pieces and one more
pub each_more : (ps : List (List ℕ)) (t p : List ℕ) (b : ℕ) → SpellEach ps t → SpellsByte p b → SpellEach (ps ++ p ∷ []) (t ++ b ∷ [])
each_more [] [] p b s one = (one, tt)
each_more [] (c ∷ t) p b s one = absurd s
each_more (q ∷ ps) [] p b s one = absurd s
each_more (q ∷ ps) (c ∷ t) p b s one = (s.0, each_more ps t p b s.1 one)

pub laid_more : (ps : List (List ℕ)) (p : List ℕ) → concat (ps ++ p ∷ []) ≡ concat ps ++ p
laid_more ps p = concat-append ps (p ∷ []) ∙ ap (λ (x : List ℕ). concat ps ++ x) (append-nil p)
