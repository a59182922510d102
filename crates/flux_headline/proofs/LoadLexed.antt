-- The tokens of a text, counted out front by front.
use Rattle.std.proofs.Common.{◌≡◌, ◌+◌, ◌⊎◌, inl, inr, ℕ, zero, suc, List, [], ◌∷◌, ◌++◌, drop, Option, Some, None, refl, sym, ap, subst, ◌∙◌}
use Rattle.flux_lexer.specs.declared.fronts.Front.{Front}
use Rattle.flux_lexer.specs.declared.fronts.Front.TheVariants as fronts
use Rattle.flux_lexer.specs.declared.kinds.Token.{Token}
use Rattle.flux_lexer.specs.declared.kinds.TokenKind.{TokenKind}
use Rattle.flux_lexer.specs.Pieces.{Piece, blank, remark, comment, token, Begins}
use Rattle.flux_lexer.specs.Texts.{Part, Laid, token_of, tokens_of}
use Rattle.flux_lexer.specs.steps.Fronts.{front_of}
use Rattle.flux_lexer.proofs.Seen.{Sees, sees}

-- a token, and those after it
abbrev pub token_before : Token → Option (List Token) → Option (List Token)
token_before first None = None
token_before first (Some tokens) = Some (first ∷ tokens)

-- the tokens from a front on, where something reads those after it
abbrev pub with_front : Front → ℕ → List ℕ → (ℕ → List ℕ → Option (List Token)) → Option (List Token)
with_front (fronts.Skip n) at text more = more (at + n) (drop n text)
with_front (fronts.Token kind n) at text more =
    token_before (record { kind = kind; start = at; end = at + n }) (more (at + n) (drop n text))
with_front fronts.Unclosed at text more = None
with_front fronts.Bad at text more = None

-- the tokens of a text from a place on, over so many pieces at most
abbrev pub tokens_seen : ℕ → ℕ → List ℕ → Option (List Token)
tokens_seen zero at [] = Some []
tokens_seen zero at (b ∷ rest) = None
tokens_seen (suc steps) at [] = Some []
tokens_seen (suc steps) at (b ∷ rest) = with_front (front_of (b ∷ rest)) at (b ∷ rest) (tokens_seen steps)

-- a text from a place on is laid out to its end, with these tokens
pub record IsLaidOut (at : ℕ) (text : List ℕ) (tokens : List Token) : Type 0 where
  pub parts : List Part
  pub laid : Laid parts [] text
  pub are : tokens ≡ tokens_of at parts

piece_more : (at n : ℕ) (text : List ℕ) (tokens own : List Token) (piece : Piece) → Begins piece n text
    → token_of piece at n ≡ own → IsLaidOut (at + n) (drop n text) tokens → IsLaidOut at text (own ++ tokens)
piece_more at n text tokens own piece begins is more = record {
  parts = record { piece = piece; length = n } ∷ more.parts;
  laid = (begins, more.laid);
  are = ap (λ (ts : List Token). own ++ ts) more.are
      ∙ ap (λ (ts : List Token). ts ++ tokens_of (at + n) more.parts) (sym is);
}

some_is : {A : Type 0} (x y : A) → ◌≡◌ {A = Option A} (Some x) (Some y) → x ≡ y
some_is x y e = cc

-- tokens that are counted out are those of a text that is laid out
pub laid_out : (steps at : ℕ) (text : List ℕ) (tokens : List Token)
    → tokens_seen steps at text ≡ Some tokens → IsLaidOut at text tokens
laid_out zero at [] tokens e = record { parts = []; laid = refl; are = sym (some_is [] tokens e) }
laid_out zero at (b ∷ rest) tokens e = absurd cc
laid_out (suc steps) at [] tokens e = record { parts = []; laid = refl; are = sym (some_is [] tokens e) }
laid_out (suc steps) at (b ∷ rest) tokens e =
    by (front_of (b ∷ rest)) (sees (b ∷ rest)) (λ place left ts f. laid_out steps place left ts f) tokens e
  where
    Behind : Type 0
    Behind = (place : ℕ) (left : List ℕ) (ts : List Token)
        → tokens_seen steps place left ≡ Some ts → IsLaidOut place left ts

    passed : (n : ℕ) (ts : List Token)
        → Begins blank n (b ∷ rest) ⊎ (Begins remark n (b ∷ rest) ⊎ Begins comment n (b ∷ rest))
        → IsLaidOut (at + n) (drop n (b ∷ rest)) ts → IsLaidOut at (b ∷ rest) ts
    passed n ts (inl is) more = piece_more at n (b ∷ rest) ts [] blank is refl more
    passed n ts (inr (inl is)) more = piece_more at n (b ∷ rest) ts [] remark is refl more
    passed n ts (inr (inr is)) more = piece_more at n (b ∷ rest) ts [] comment is refl more

    counted : (kind : TokenKind) (n : ℕ) (ts : List Token) → Begins (token kind) n (b ∷ rest) → Behind
        → (o : Option (List Token)) → tokens_seen steps (at + n) (drop n (b ∷ rest)) ≡ o
        → token_before (record { kind = kind; start = at; end = at + n }) o ≡ Some ts → IsLaidOut at (b ∷ rest) ts
    counted kind n ts is behind None e f = absurd cc
    counted kind n ts is behind (Some others) e f =
        let first : Token = record { kind = kind; start = at; end = at + n } in
        let more = behind (at + n) (drop n (b ∷ rest)) others e in
        subst (IsLaidOut at (b ∷ rest)) (some_is (first ∷ others) ts f)
        (piece_more at n (b ∷ rest) others (first ∷ []) (token kind) is refl more)

    by : (front : Front) → Sees (b ∷ rest) front → Behind → (ts : List Token)
        → with_front front at (b ∷ rest) (tokens_seen steps) ≡ Some ts → IsLaidOut at (b ∷ rest) ts
    by (fronts.Skip n) is behind ts e = passed n ts is (behind (at + n) (drop n (b ∷ rest)) ts e)
    by (fronts.Token kind n) is behind ts e =
        counted kind n ts is behind (tokens_seen steps (at + n) (drop n (b ∷ rest))) refl e
    by fronts.Unclosed is behind ts e = absurd cc
    by fronts.Bad is behind ts e = absurd cc
