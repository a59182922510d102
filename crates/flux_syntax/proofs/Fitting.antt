-- The tokens of a text fit it.
use Rattle.std.proofs.Common.{◌≡◌, ◌≤◌, ◌<◌, ◌+◌, ◌-◌, ℕ, zero, suc, List, [], ◌∷◌, length, drop, Option, Some, None, ap, subst, ◌∙◌, arith}
use Rattle.std.proofs.lemmas.List.{drop-drop, length-drop}
use Rattle.std.specs.List.{AllByRecursion}
use Rattle.flux_lexer.specs.declared.kinds.Token.{Token}
use Rattle.flux_lexer.specs.declared.kinds.TokenKind.{TokenKind}
use Rattle.flux_lexer.specs.Pieces.{Piece, blank, remark, comment, token, IsToken}
use Rattle.flux_lexer.specs.Texts.{Part, Laid, tokens_of, AreTokensOf}
use Rattle.flux_syntax.specs.steps.Cursors.{Lies, Fit}

some_bytes : (kind : TokenKind) (n : ℕ) (text : List ℕ) → IsToken kind n text → 0 < n
some_bytes kind zero text t = let h : ◌≡◌ {A = Option TokenKind} None (Some kind) = t.spelled in absurd cc
some_bytes kind (suc n) text t = omega arith

record Fits (text : List ℕ) (room : ℕ) (tokens : List Token) : Type 0 where
  lie : AllByRecursion (Lies text) tokens
  few : length tokens ≤ room

fits_part : (text : List ℕ) (at : ℕ) (piece : Piece) (n : ℕ) (parts : List Part) → Laid (record { piece = piece; length = n } ∷ parts) [] (drop at text) → Fits text (length text - (at + n)) (tokens_of (at + n) parts)
    → Fits text (length text - at) (tokens_of at (record { piece = piece; length = n } ∷ parts))
fits_part text at blank n parts laid more = record { lie = more.lie; few = omega (arith, more.few) }
fits_part text at remark n parts laid more = record { lie = more.lie; few = omega (arith, more.few) }
fits_part text at comment n parts laid more = record { lie = more.lie; few = omega (arith, more.few) }
fits_part text at (token kind) n parts laid more =
    let some = some_bytes kind n (drop at text) laid.0 in
    let within : n ≤ length text - at = omega (arith, laid.0.within, length-drop at text) in
    record {
      lie = (record { rising = omega arith; within = omega (arith, some, within); short = omega (arith, laid.0.short) }, more.lie);
      few = omega (arith, more.few, some, within);
    }

fits_parts : (text : List ℕ) (at : ℕ) (parts : List Part) → Laid parts [] (drop at text) → Fits text (length text - at) (tokens_of at parts)
fits_parts text at [] laid = record { lie = tt; few = omega arith }
fits_parts text at (part ∷ parts) laid =
    fits_part text at part.piece part.length parts laid (fits_parts text (at + part.length) parts (subst (Laid parts []) (drop-drop part.length at text ∙ ap (λ (i : ℕ). drop i text) (omega arith)) laid.1))

-- the tokens of a text lie in it, and are few
pub fit : (text : List ℕ) (tokens : List Token) → AreTokensOf tokens text → Fit text tokens
fit text tokens are =
    let fits = fits_parts text 0 are.parts are.laid in
    rw are.are (record { lie = fits.lie; few = omega (arith, fits.few, are.few) })
