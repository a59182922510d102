-- What the lexer and the parser answer together of a text.
use Rattle.std.proofs.Common.{◌≡◌, refl, ◌≤◌, ◌<◌, ℕ, suc, List, [], ◌∷◌, ◌++◌, length, map, Result, Ok, Err, IfOk, IfErr, inl, inr, sym, ap, subst, ◌∙◌, arith}
use Rattle.std.specs.List.{AllByRecursion}
use Rattle.flux_faults.specs.declared.faults.FaultKind.{FaultKind}
use Rattle.flux_faults.specs.declared.faults.FaultKind.TheVariants.{Unexpected}
use Rattle.flux_faults.specs.declared.faults.CheckFault.{CheckFault}
use Rattle.flux_faults.specs.declared.faults.CheckFault.TheVariants.{Static, Memory}
use Rattle.flux_faults.specs.Faults.{IsPlacedIn}
use Rattle.flux_faults.specs.declared.places.TheConstants.{PLACE_LIMIT}
use Rattle.flux_lexer.specs.declared.kinds.Token.{Token}
use Rattle.flux_lexer.specs.declared.reading.TheConstants.{PROGRAM_LIMIT}
use Rattle.flux_lexer.specs.Texts as lexer
use Rattle.flux_lexer.specs.Texts.{AreTokensOf, Stands, IsTokensOrMemory}
use Rattle.flux_syntax.specs.declared.declarations.Decl.{Decl}
use Rattle.flux_syntax.specs.steps.Cursors.{Lies}
use Rattle.flux_syntax.specs.Declares.{Declares, Spell}
use Rattle.flux_syntax.specs.Counted.{words_of}
use Rattle.flux_syntax.proofs.Counts.{words_few, decls_few}
use Rattle.flux_syntax.specs.Unexpected.{StopsAt, IsUnexpected, IsFaultOf, AreDeclsOrMemory, IsFaultOrMemory, IsFaulty, IsRefusalOf, IsThatOrMemory}
use Rattle.flux_lexer.proofs.Only.{tokens_only, no_tokens}
use Rattle.flux_syntax.specs.Symbols.{Symbol, symbol_of}
use Rattle.flux_syntax.proofs.Refused.{no_place, one_reading}
use Rattle.flux_syntax.proofs.Fitting.{fit}

-- ---- places

lies_within : (text : List ℕ) (before rest : List Token) (t : Token) → AllByRecursion (Lies text) (before ++ t ∷ rest) → t.start ≤ length text
lies_within text [] rest t all = omega (arith, all.0.rising, all.0.within)
lies_within text (s ∷ before) rest t all = lies_within text before rest t all.1

stops_within : (at : ℕ) (text : List ℕ) (before rest : List Token) → AllByRecursion (Lies text) (before ++ rest) → StopsAt at text before rest → at ≤ length text
stops_within at text before [] all (end, stops) = omega (arith, end)
stops_within at text before (t ∷ rest) all (start, stops) = omega (arith, start, lies_within text before rest t all)

unexpected_within : (at : ℕ) (text : List ℕ) (tokens : List Token) → AreTokensOf tokens text → IsUnexpected at text tokens → at ≤ length text
unexpected_within at text tokens are u = stops_within at text u.before u.rest (subst (AllByRecursion (Lies text)) u.split (fit text tokens are).lie) u.stops

-- a fault 4 is placed in the text
pub unexpected_placed : (text : List ℕ) (tokens : List Token) (at : ℕ) → AreTokensOf tokens text → IsUnexpected at text tokens → (at ≤ length text) × (at < PLACE_LIMIT)
unexpected_placed text tokens at are u = let le = unexpected_within at text tokens are u in (le, omega (arith, le, are.few))

-- ---- with tokens

-- the parser's refusal says it of the text
pub refused_with : (text : List ℕ) (tokens : List Token) (r : Result (List Decl) CheckFault) → AreTokensOf tokens text → IfErr r (IsFaultOf text tokens) → IfErr r (IsPlacedIn text) → IfErr r (IsRefusalOf text)
refused_with text tokens (Ok decls) are h placed = tt
refused_with text tokens (Err Memory) are h placed = tt
refused_with text tokens (Err (Static fault)) are (kind, path, u) placed = (path, inr (kind, tokens, are, u), placed)

-- the parser gives what the text declares
pub decls_with : (text : List ℕ) (tokens : List Token) (r : Result (List Decl) CheckFault) → ((others : List Token) → AreTokensOf others text → tokens ≡ others) → ((decls : List Decl) → Spell text tokens decls → AreDeclsOrMemory decls r) → (decls : List Decl) → Declares decls text → AreDeclsOrMemory decls r
decls_with text tokens r same all decls d = all decls (subst (λ (l : List Token). Spell text l decls) (sym (same d.tokens d.are)) d.spelled)

that_of : (kind : FaultKind) (at : ℕ) (text : List ℕ) (tokens : List Token) (r : Result (List Decl) CheckFault) → kind ≡ Unexpected → IfErr r (IsFaultOf text tokens) → IsFaultOrMemory at r → IsThatOrMemory kind at r
that_of kind at text tokens (Ok decls) k refused that = that
that_of kind at text tokens (Err Memory) k refused that = tt
that_of kind at text tokens (Err (Static fault)) k (own, path, u) that = (own ∙ sym k, that)

-- the parser gives the fault of the text
pub stands_with : (text : List ℕ) (tokens : List Token) (r : Result (List Decl) CheckFault) → ((others : List Token) → AreTokensOf others text → tokens ≡ others) → ((kind : FaultKind) (at : ℕ) → Stands kind at text → ⊥) → IfErr r (IsFaultOf text tokens)
    → ((at : ℕ) → IsUnexpected at text tokens → IsFaultOrMemory at r) → (kind : FaultKind) (at : ℕ) → IsFaulty kind at text → IsThatOrMemory kind at r
stands_with text tokens r same no_fault refused that kind at (inl stands) = absurd (no_fault kind at stands)
stands_with text tokens r same no_fault refused that kind at (inr (k, others, are, u)) = that_of kind at text tokens r k refused (that at (subst (IsUnexpected at text) (sym (same others are)) u))

-- ---- without tokens

-- the lexer's refusal says it of the text
pub refused_without : (text : List ℕ) (fault : CheckFault) → lexer.IsFaultOf text fault → IsPlacedIn text fault → IsRefusalOf text fault
refused_without text Memory h placed = tt
refused_without text (Static fault) (path, stands) placed = (path, inl stands, placed)

-- where the lexer refuses, the text declares nothing
pub decls_without : (text : List ℕ) (fault : CheckFault) → ((others : List Token) → AreTokensOf others text → IsTokensOrMemory others (Err fault)) → (decls : List Decl) → Declares decls text → AreDeclsOrMemory decls (Err fault)
decls_without text Memory no_tokens decls d = tt
decls_without text (Static fault) no_tokens decls d = no_tokens d.tokens d.are

-- where the lexer refuses, its fault is the text's
pub stands_without : (text : List ℕ) (fault : CheckFault) → ((others : List Token) → AreTokensOf others text → IsTokensOrMemory others (Err fault)) → ((kind : FaultKind) (at : ℕ) → Stands kind at text → lexer.IsFaultOrMemory kind at (Err fault))
    → (kind : FaultKind) (at : ℕ) → IsFaulty kind at text → IsThatOrMemory kind at (Err fault)
stands_without text Memory no_tokens that kind at h = tt
stands_without text (Static fault) no_tokens that kind at (inl stands) = that kind at stands
stands_without text (Static fault) no_tokens that kind at (inr (k, others, are, u)) = absurd (no_tokens others are)

-- ---- declarations of a text

-- a text declares one list
pub one_list : (text : List ℕ) (a b : List Decl) → Declares a text → Declares b text → a ≡ b
one_list text a b x y = one_reading text x.tokens a b x.spelled (subst (λ (l : List Token). Spell text l b) (tokens_only text x.tokens y.tokens x.are y.are) y.spelled)

-- a text with one of the faults has no declarations
pub no_decls : (kind : FaultKind) (at : ℕ) (text : List ℕ) (decls : List Decl) → IsFaulty kind at text → Declares decls text → ⊥
no_decls kind at text decls (inl stands) d = no_tokens text kind at d.tokens stands d.are
no_decls kind at text decls (inr (k, tokens, are, u)) d = no_place at text d.tokens decls d.spelled (subst (λ (l : List Token). IsUnexpected at text l) (tokens_only text d.tokens tokens d.are are) u)

map_length : (f : Token → Symbol) (l : List Token) → length (map f l) ≡ length l
map_length f [] = refl
map_length f (t ∷ l) = ap (λ (n : ℕ). suc n) (map_length f l)

-- there are no more words than bytes in the longest text
pub few_words : (decls : List Decl) (text : List ℕ) → Declares decls text → words_of decls ≤ PROGRAM_LIMIT
few_words decls text d = let few = words_few decls (map (symbol_of text) d.tokens) d.spelled in omega (arith, few, map_length (symbol_of text) d.tokens, (fit text d.tokens d.are).few)

-- there are no more declarations than words
pub few_decls : (decls : List Decl) (text : List ℕ) → Declares decls text → length decls ≤ PROGRAM_LIMIT
few_decls decls text d = omega (arith, few_words decls text d, decls_few decls)

-- the declarations of a text have few words
pub few_with : (text : List ℕ) (tokens : List Token) (r : Result (List Decl) CheckFault) → AreTokensOf tokens text → IfOk r (Spell text tokens) → IfOk r (λ decls. words_of decls ≤ PROGRAM_LIMIT)
few_with text tokens (Ok decls) are spelled = few_words decls text (record { tokens = tokens; are = are; spelled = spelled })
few_with text tokens (Err fault) are spelled = tt
