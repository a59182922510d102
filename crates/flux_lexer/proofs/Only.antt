-- A text is laid out in one way: it has its tokens or one fault.
use Rattle.std.proofs.Common.{◌≡◌, ℕ, ◌+◌, inl, inr, List, [], ◌∷◌, ◌++◌, ◌<◌, ◌≤◌, length, drop, Result, Err, IfErr, refl, sym, ap, subst, ◌∙◌, arith}
use Rattle.flux_faults.specs.declared.faults.FaultKind.{FaultKind}
use Rattle.flux_faults.specs.declared.faults.CheckFault.{CheckFault}
use Rattle.flux_faults.specs.declared.faults.CheckFault.TheVariants.{Static}
use Rattle.flux_faults.specs.Faults.{IsPlacedIn}
use Rattle.flux_faults.specs.declared.places.TheConstants.{PLACE_LIMIT}
use Rattle.flux_lexer.specs.declared.kinds.Token.{Token}
use Rattle.flux_lexer.specs.declared.fronts.Front.{Front}
use Rattle.flux_lexer.specs.declared.fronts.Front.TheVariants as fronts
use Rattle.flux_lexer.specs.Pieces.{Piece, blank, remark, comment, token, Begins, BeginsNone, IsUnclosed}
use Rattle.flux_lexer.specs.Texts.{Part, Laid, token_of, tokens_of, AreTokensOf, IsLaidUpTo, Stands, IsFaultOf, IsTokensOrMemory, IsFaultOrMemory}
use Rattle.flux_lexer.proofs.Seen.{as_front, is_seen, nothing_begins, unclosed_is_no_piece}

-- what a front says of its piece
abbrev front_tokens : Front → ℕ → List Token
front_tokens (fronts.Skip n) at = []
front_tokens (fronts.Token kind n) at = record { kind = kind; start = at; end = at + n } ∷ []
front_tokens fronts.Unclosed at = []
front_tokens fronts.Bad at = []

abbrev front_length : Front → ℕ
front_length (fronts.Skip n) = n
front_length (fronts.Token kind n) = n
front_length fronts.Unclosed = 0
front_length fronts.Bad = 0

tokens_told : (piece : Piece) (at n : ℕ) → token_of piece at n ≡ front_tokens (as_front piece n) at
tokens_told blank at n = refl
tokens_told remark at n = refl
tokens_told comment at n = refl
tokens_told (token kind) at n = refl

length_told : (piece : Piece) (n : ℕ) → n ≡ front_length (as_front piece n)
length_told blank n = refl
length_told remark n = refl
length_told comment n = refl
length_told (token kind) n = refl

none_begins_nothing : BeginsNone []
none_begins_nothing = nothing_begins [] refl

record Same (at : ℕ) (parts others : List Part) (r s : List ℕ) : Type 0 where
  tokens : tokens_of at parts ≡ tokens_of at others
  rest : r ≡ s

same_laid : (at : ℕ) (parts others : List Part) (r s text : List ℕ) → Laid parts r text → Laid others s text → BeginsNone r → BeginsNone s → Same at parts others r s
same_laid at [] [] r s text a b nr ns = record { tokens = refl; rest = sym a ∙ b }
same_laid at [] (o ∷ others) r s text a b nr ns = absurd (nr o.piece o.length (subst (Begins o.piece o.length) a b.0))
same_laid at (p ∷ parts) [] r s text a b nr ns = absurd (ns p.piece p.length (subst (Begins p.piece p.length) b a.0))
same_laid at (p ∷ parts) (o ∷ others) r s text a b nr ns =
    let front = sym (is_seen text p.piece p.length a.0) ∙ is_seen text o.piece o.length b.0 in
    let count : p.length ≡ o.length = length_told p.piece p.length ∙ ap front_length front ∙ sym (length_told o.piece o.length) in
    let toks : token_of p.piece at p.length ≡ token_of o.piece at o.length = tokens_told p.piece at p.length ∙ ap (λ (f : Front). front_tokens f at) front ∙ sym (tokens_told o.piece at o.length) in
    let left : Laid others s (drop p.length text) = subst (λ (n : ℕ). Laid others s (drop n text)) (sym count) b.1 in
    let more = same_laid (at + p.length) parts others r s (drop p.length text) a.1 left nr ns in
    record {
      tokens = ap (λ (l : List Token). l ++ tokens_of (at + p.length) parts) toks ∙ ap (λ (l : List Token). token_of o.piece at o.length ++ l) more.tokens ∙ ap (λ (n : ℕ). token_of o.piece at o.length ++ tokens_of (at + n) others) count;
      rest = more.rest;
    }

-- ---- one answer

-- a text has one list of tokens
pub tokens_only : (text : List ℕ) (ts us : List Token) → AreTokensOf ts text → AreTokensOf us text → us ≡ ts
tokens_only text ts us a b = b.are ∙ sym (same_laid 0 a.parts b.parts [] [] text a.laid b.laid none_begins_nothing none_begins_nothing).tokens ∙ sym a.are

-- a text that is laid out to its end isn't laid out only up to a place
no_rest : (text : List ℕ) (at : ℕ) (rest : List ℕ) (ts : List Token) → IsLaidUpTo at rest text → BeginsNone rest → AreTokensOf ts text → rest ≡ []
no_rest text at rest ts up none a = (same_laid 0 up.parts a.parts rest [] text up.laid a.laid none none_begins_nothing).rest

unclosed_some : (rest : List ℕ) → IsUnclosed rest → rest ≡ [] → ⊥
unclosed_some rest (more, is, none) e = let clash = sym is ∙ e in absurd cc

-- a text with a fault has no tokens
pub no_tokens : (text : List ℕ) (kind : FaultKind) (at : ℕ) (ts : List Token) → Stands kind at text → AreTokensOf ts text → ⊥
no_tokens text kind at ts (inl s) a = absurd (omega (arith, s.1.1, a.few))
no_tokens text kind at ts (inr (inl s)) a = absurd (omega (arith, s.1.some, ap length (no_rest text at s.1.rest ts s.1.laid s.1.none a)))
no_tokens text kind at ts (inr (inr s)) a = unclosed_some s.1.rest s.1.unclosed (no_rest text at s.1.rest ts s.1.laid (unclosed_is_no_piece s.1.rest s.1.unclosed) a)

same_rest : (text : List ℕ) (at place : ℕ) (r s : List ℕ) → IsLaidUpTo at r text → IsLaidUpTo place s text → BeginsNone r → BeginsNone s → r ≡ s
same_rest text at place r s a b nr ns = (same_laid 0 a.parts b.parts r s text a.laid b.laid nr ns).rest

same_place : (text : List ℕ) (at place : ℕ) (r s : List ℕ) → IsLaidUpTo at r text → IsLaidUpTo place s text → BeginsNone r → BeginsNone s → at ≡ place
same_place text at place r s a b nr ns = omega (arith, a.place, b.place, ap length (same_rest text at place r s a b nr ns))

-- one fault applies, at one place
pub stands_only : (text : List ℕ) (k l : FaultKind) (at place : ℕ) → Stands k at text → Stands l place text → (k ≡ l) × (at ≡ place)
stands_only text k l at place (inl s) (inl t) = (s.0 ∙ sym t.0, s.1.0 ∙ sym t.1.0)
stands_only text k l at place (inl s) (inr (inl t)) = absurd (omega (arith, s.1.1, t.1.laid.few))
stands_only text k l at place (inl s) (inr (inr t)) = absurd (omega (arith, s.1.1, t.1.laid.few))
stands_only text k l at place (inr (inl s)) (inl t) = absurd (omega (arith, t.1.1, s.1.laid.few))
stands_only text k l at place (inr (inr s)) (inl t) = absurd (omega (arith, t.1.1, s.1.laid.few))
stands_only text k l at place (inr (inl s)) (inr (inl t)) = (s.0 ∙ sym t.0, same_place text at place s.1.rest t.1.rest s.1.laid t.1.laid s.1.none t.1.none)
stands_only text k l at place (inr (inl s)) (inr (inr t)) =
    let rest = same_rest text at place s.1.rest t.1.rest s.1.laid t.1.laid s.1.none (unclosed_is_no_piece t.1.rest t.1.unclosed) in
    absurd (s.1.closed (subst IsUnclosed (sym rest) t.1.unclosed))
stands_only text k l at place (inr (inr s)) (inr (inl t)) =
    let rest = same_rest text place at t.1.rest s.1.rest t.1.laid s.1.laid t.1.none (unclosed_is_no_piece s.1.rest s.1.unclosed) in
    absurd (t.1.closed (subst IsUnclosed (sym rest) s.1.unclosed))
stands_only text k l at place (inr (inr s)) (inr (inr t)) =
    (s.0 ∙ sym t.0, same_place text at place s.1.rest t.1.rest s.1.laid t.1.laid (unclosed_is_no_piece s.1.rest s.1.unclosed) (unclosed_is_no_piece t.1.rest t.1.unclosed))

-- ---- a refusal

-- a fault's place is within the text
place_within : (text : List ℕ) (kind : FaultKind) (at : ℕ) → Stands kind at text → (at ≤ length text) × (at < PLACE_LIMIT)
place_within text kind at (inl s) = (omega (arith, s.1.0), omega (arith, s.1.0))
place_within text kind at (inr (inl s)) = (omega (arith, s.1.laid.place), omega (arith, s.1.laid.place, s.1.laid.few))
place_within text kind at (inr (inr s)) = (omega (arith, s.1.laid.place), omega (arith, s.1.laid.place, s.1.laid.few))

-- what a refused text's answer has to say
pub record Refuses (text : List ℕ) (result : Result (List Token) CheckFault) : Type 0 where
  pub fault : IfErr result (IsFaultOf text)
  pub placed : IfErr result (IsPlacedIn text)
  pub tokens : (tokens : List Token) → AreTokensOf tokens text → IsTokensOrMemory tokens result
  pub stands : (kind : FaultKind) (at : ℕ) → Stands kind at text → IsFaultOrMemory kind at result

-- where a fault applies, the answer with it says that
pub refuses : (text : List ℕ) (kind : FaultKind) (at : ℕ) (fault : CheckFault) → Stands kind at text → fault ≡ Static (record { kind = kind; at = at; path = [] }) → Refuses text (Err fault)
refuses text kind at fault s e = subst (λ (f : CheckFault). Refuses text (Err f)) (sym e) (record {
  fault = (refl, s);
  placed = place_within text kind at s;
  tokens = λ ts are. absurd (no_tokens text kind at ts s are);
  stands = λ k a other. stands_only text kind k at a s other;
})
