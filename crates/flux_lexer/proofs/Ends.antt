-- How the reading of a text ends.
use Rattle.std.proofs.Common.{◌≡◌, ℕ, ◌<◌, ◌≤◌, inl, inr, List, length, drop, refl, subst, ◌∙◌, arith}
use Rattle.std.proofs.lemmas.List.{length-drop, nil_from_length}
use Rattle.flux_faults.specs.declared.faults.FaultKind.TheVariants.{BadByte, UnclosedComment}
use Rattle.flux_lexer.specs.declared.kinds.Token.{Token}
use Rattle.flux_lexer.specs.declared.fronts.Front.TheVariants as fronts
use Rattle.flux_lexer.specs.declared.reading.TheConstants.{PROGRAM_LIMIT}
use Rattle.flux_lexer.specs.Pieces.{IsUnclosed}
use Rattle.flux_lexer.specs.Texts.{Laid, AreTokensOf, IsLaidUpTo, Stands}
use Rattle.flux_lexer.specs.steps.Fronts.{front_of}
use Rattle.flux_lexer.proofs.Seen.{nothing_begins, nothing_unclosed}
use Rattle.flux_lexer.proofs.Turns.{SoFar}

up_to : (text : List ℕ) (tokens : List Token) (at : ℕ) → SoFar text tokens at → length text ≤ PROGRAM_LIMIT → IsLaidUpTo at (drop at text) text
up_to text tokens at s few = record { few = few; parts = s.parts; laid = s.laid; place = omega (arith, s.within, length-drop at text) }

-- where nothing begins the rest, fault 2 applies
pub stands_bad : (text : List ℕ) (tokens : List Token) (at : ℕ) → SoFar text tokens at → at < length text → length text ≤ PROGRAM_LIMIT → front_of (drop at text) ≡ fronts.Bad → Stands BadByte at text
stands_bad text tokens at s lt few bad = inr (inl (
  refl,
  record {
    rest = drop at text;
    laid = up_to text tokens at s few;
    some = omega (arith, lt, length-drop at text);
    none = nothing_begins (drop at text) bad;
    closed = nothing_unclosed (drop at text) bad;
  },
))

-- where the rest is a comment that nothing closes, fault 3 applies
pub stands_unclosed : (text : List ℕ) (tokens : List Token) (at : ℕ) → SoFar text tokens at → length text ≤ PROGRAM_LIMIT → IsUnclosed (drop at text) → Stands UnclosedComment at text
stands_unclosed text tokens at s few u = inr (inr (refl, record { rest = drop at text; laid = up_to text tokens at s few; unclosed = u }))

-- at the end the tokens are those of the text
pub are_tokens : (text : List ℕ) (tokens : List Token) (at : ℕ) → SoFar text tokens at → length text ≤ at → length text ≤ PROGRAM_LIMIT → AreTokensOf tokens text
are_tokens text tokens at s le few = record {
  few = few;
  parts = s.parts;
  laid = subst (λ (l : List ℕ). Laid s.parts l text) (nil_from_length (drop at text) (length-drop at text ∙ omega (arith, le))) s.laid;
  are = s.are;
}
