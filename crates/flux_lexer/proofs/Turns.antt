-- A text is read piece by piece.
use Rattle.std.proofs.Common.{◌≡◌, ℕ, zero, suc, ◌+◌, ◌<◌, ◌≤◌, ◌⊎◌, inl, inr, not, eqb, List, [], ◌∷◌, ◌++◌, length, drop, Option, Some, None, refl, sym, ap, subst, ◌∙◌, arith, append_assoc}
use Rattle.std.proofs.lemmas.List.{append-nil, drop-drop, length-drop}
use Rattle.flux_lexer.specs.declared.kinds.Token.{Token}
use Rattle.flux_lexer.specs.declared.kinds.TokenKind.{TokenKind}
use Rattle.flux_lexer.specs.Pieces.{Piece, blank, remark, comment, token, IsToken, Begins}
use Rattle.flux_lexer.specs.Texts.{Part, Laid, token_of, tokens_of}
use Rattle.flux_lexer.proofs.Seen.{within}
use Rattle.flux_lexer.proofs.Closing.{close_within}

-- a piece has a byte at least, and lies in the text
pub record Fits (n : ℕ) (text : List ℕ) : Type 0 where
  pub some : 0 < n
  pub inside : n ≤ length text

token_fits : (kind : TokenKind) (n : ℕ) (text : List ℕ) → IsToken kind n text → Fits n text
token_fits kind zero text t = let h : ◌≡◌ {A = Option TokenKind} None (Some kind) = t.spelled in absurd cc
token_fits kind (suc n) text t = record { some = omega arith; inside = t.within }

-- each piece has a byte at least, and lies in the text
pub piece_fits : (piece : Piece) (n : ℕ) (text : List ℕ) → Begins piece n text → Fits n text
piece_fits blank n text (b, rest, is, e, one) = rw (is, one) (record { some = omega arith; inside = omega arith })
piece_fits remark n text (rest, is, count) = rw (is, count) (record { some = omega arith; inside = omega (arith, within (λ b. not (eqb b 10)) rest) })
piece_fits comment n text (rest, is, k, closed, count) = rw (is, count) (record { some = omega arith; inside = omega (arith, close_within rest k closed) })
piece_fits (token kind) n text t = token_fits kind n text t

-- ---- one part more

abbrev total : List Part → ℕ
total [] = 0
total (part ∷ parts) = part.length + total parts

laid_push : (parts : List Part) (rest text : List ℕ) (part : Part) → Laid parts rest text → Begins part.piece part.length rest → Laid (parts ++ part ∷ []) (drop part.length rest) text
laid_push [] rest text part laid b = rw laid (b, refl)
laid_push (first ∷ parts) rest text part laid b = (laid.0, laid_push parts rest (drop first.length text) part laid.1 b)

tokens_push : (at : ℕ) (parts : List Part) (part : Part) (end : ℕ) → end ≡ at + total parts → tokens_of at (parts ++ part ∷ []) ≡ tokens_of at parts ++ token_of part.piece end part.length
tokens_push at [] part end is = let same : end ≡ at = omega (arith, is) in rw same (append-nil (token_of part.piece at part.length))
tokens_push at (first ∷ parts) part end is =
    ap (λ (l : List Token). token_of first.piece at first.length ++ l) (tokens_push (at + first.length) parts part end (omega (arith, is)))
    ∙ sym (append_assoc (token_of first.piece at first.length) (tokens_of (at + first.length) parts) (token_of part.piece end part.length))

total_push : (parts : List Part) (part : Part) → total (parts ++ part ∷ []) ≡ total parts + part.length
total_push [] part = omega arith
total_push (first ∷ parts) part = ap (λ (n : ℕ). first.length + n) (total_push parts part) ∙ omega arith

-- these tokens have been read, and so many bytes
pub record SoFar (text : List ℕ) (tokens : List Token) (at : ℕ) : Type 0 where
  pub parts : List Part
  pub laid : Laid parts (drop at text) text
  pub are : tokens ≡ tokens_of 0 parts
  pub place : at ≡ total parts
  pub within : at ≤ length text

-- before the first byte
pub so_far_none : (text : List ℕ) → SoFar text [] 0
so_far_none text = record { parts = []; laid = refl; are = refl; place = refl; within = omega arith }

-- one piece more
pub so_far_next : (text : List ℕ) (tokens : List Token) (at : ℕ) (piece : Piece) (n : ℕ) → SoFar text tokens at → Begins piece n (drop at text) → SoFar text (tokens ++ token_of piece at n) (at + n)
so_far_next text tokens at piece n s b =
    let part : Part = record { piece = piece; length = n } in
    let fits = piece_fits piece n (drop at text) b in
    record {
      parts = s.parts ++ part ∷ [];
      laid = subst (λ (l : List ℕ). Laid (s.parts ++ part ∷ []) l text) (drop-drop n at text ∙ ap (λ (i : ℕ). drop i text) (omega arith)) (laid_push s.parts (drop at text) text part s.laid b);
      are = ap (λ (l : List Token). l ++ token_of piece at n) s.are ∙ sym (tokens_push 0 s.parts part at (omega (arith, s.place)));
      place = omega (arith, s.place, total_push s.parts part);
      within = omega (arith, s.within, fits.inside, length-drop at text);
    }

-- what a front says of its piece: a blank, or a comment up to its line's end, or one that is closed
abbrev pub IsPassed : ℕ → List ℕ → Type 0
IsPassed n text = Begins blank n text ⊎ (Begins remark n text ⊎ Begins comment n text)

-- a blank or a comment fits
pub passed_fits : (n : ℕ) (text : List ℕ) → IsPassed n text → Fits n text
passed_fits n text (inl b) = piece_fits blank n text b
passed_fits n text (inr (inl b)) = piece_fits remark n text b
passed_fits n text (inr (inr b)) = piece_fits comment n text b

-- a blank or a comment more
pub so_far_passed : (text : List ℕ) (tokens : List Token) (at n : ℕ) → SoFar text tokens at → IsPassed n (drop at text) → SoFar text tokens (at + n)
so_far_passed text tokens at n s (inl b) = subst (λ (l : List Token). SoFar text l (at + n)) (append-nil tokens) (so_far_next text tokens at blank n s b)
so_far_passed text tokens at n s (inr (inl b)) = subst (λ (l : List Token). SoFar text l (at + n)) (append-nil tokens) (so_far_next text tokens at remark n s b)
so_far_passed text tokens at n s (inr (inr b)) = subst (λ (l : List Token). SoFar text l (at + n)) (append-nil tokens) (so_far_next text tokens at comment n s b)
