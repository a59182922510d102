-- Where the parser is stuck is the one place of the fault.
use Rattle.std.proofs.Common.{◌≡◌, ◌≤◌, ◌-◌, ℕ, suc, List, [], ◌∷◌, ◌++◌, length, drop, map, ◌⊎◌, inl, inr, refl, sym, ap, subst, ◌∙◌, arith, append_assoc, length-append}
use Rattle.std.proofs.lemmas.List.{append-nil, map-append}
use Rattle.flux_lexer.specs.declared.kinds.Token.{Token}
use Rattle.flux_syntax.specs.declared.declarations.Decl.{Decl}
use Rattle.flux_syntax.specs.Symbols.{Symbol, symbol_of}
use Rattle.flux_syntax.specs.Grammar.{IsProgram}
use Rattle.flux_syntax.specs.Declares.{Spell}
use Rattle.flux_syntax.specs.Unexpected.{CanBegin, StopsAt, IsUnexpected}
use Rattle.flux_syntax.specs.steps.Reading.{Read, got, stuck, program_at, place_at}
use Rattle.flux_syntax.proofs.Told.{Told_of}
use Rattle.flux_syntax.proofs.Programs.{told_program, program_whole, at_end}

-- ---- one place

abbrev Split : List Token → List Token → List Token → List Token → Type 0
Split a b c d = ((e : List Token) × (c ≡ a ++ e) × (b ≡ e ++ d)) ⊎ ((e : List Token) × (a ≡ c ++ e) × (d ≡ e ++ b))

split : (a b c d : List Token) → a ++ b ≡ c ++ d → Split a b c d
split [] b c d e = inl (c, refl, e)
split (x ∷ a) b [] d e = inr (x ∷ a, refl, sym e)
split (x ∷ a) b (y ∷ c) d e = longer (split a b c d cc) cc
  where
    longer : Split a b c d → x ≡ y → Split (x ∷ a) b (y ∷ c) d
    longer (inl (l, f, g)) same = inl (l, rw (same, f) refl, g)
    longer (inr (l, f, g)) same = inr (l, rw (same, f) refl, g)

fewer : (text : List ℕ) (before more : List Token) → CanBegin text (before ++ more) → CanBegin text before
fewer text before more (decls, rest, is) =
    (decls, map (symbol_of text) more ++ rest, subst (IsProgram decls) (ap (λ (l : List Symbol). l ++ rest) (map-append (symbol_of text) before more) ∙ append_assoc (map (symbol_of text) before) (map (symbol_of text) more) rest) is)

same_stop : (at other : ℕ) (text : List ℕ) (before rest : List Token) → StopsAt at text before rest → StopsAt other text before rest → at ≡ other
same_stop at other text before [] a b = a.0 ∙ sym b.0
same_stop at other text before (t ∷ rest) a b = a.0 ∙ sym b.0

earlier : (at other : ℕ) (text : List ℕ) (a b d e : List Token) → StopsAt at text a b → StopsAt other text (a ++ e) d → CanBegin text (a ++ e) → b ≡ e ++ d → at ≡ other
earlier at other text a b d [] stops stop begun is = same_stop at other text a b stops (subst (StopsAt other text a) (sym is) (subst (λ (l : List Token). StopsAt other text l d) (append-nil a) stop))
earlier at other text a [] d (t ∷ e) stops stop begun is = absurd cc
earlier at other text a (u ∷ b) d (t ∷ e) stops stop begun is =
    absurd (stops.1 (subst (λ (s : Token). CanBegin text (a ++ s ∷ [])) (sym (first is)) (fewer text (a ++ t ∷ []) e (subst (CanBegin text) (sym (append_assoc a (t ∷ []) e)) begun))))
  where
    first : u ∷ b ≡ t ∷ (e ++ d) → u ≡ t
    first e = cc

-- fault 4 applies at one place
pub one_place : (at other : ℕ) (text : List ℕ) (tokens : List Token) → IsUnexpected at text tokens → IsUnexpected other text tokens → at ≡ other
one_place at other text tokens a b = both (split a.before a.rest b.before b.rest (sym a.split ∙ b.split))
  where
    both : Split a.before a.rest b.before b.rest → at ≡ other
    both (inl (e, is, rest)) = earlier at other text a.before a.rest b.rest e a.stops (subst (λ (l : List Token). StopsAt other text l b.rest) is b.stops) (subst (CanBegin text) is b.begun) rest
    both (inr (e, is, rest)) = sym (earlier other at text b.before b.rest a.rest e b.stops (subst (λ (l : List Token). StopsAt at text l a.rest) is a.stops) (subst (CanBegin text) is a.begun) rest)

-- a program has no such place
pub no_place : (at : ℕ) (text : List ℕ) (tokens : List Token) (decls : List Decl) → Spell text tokens decls → IsUnexpected at text tokens → ⊥
no_place at text tokens decls is a = none a.rest a.split a.stops
  where
    none : (rest : List Token) → tokens ≡ a.before ++ rest → StopsAt at text a.before rest → ⊥
    none [] split (end, no_program) = no_program decls (subst (λ (l : List Token). Spell text l decls) (split ∙ append-nil a.before) is)
    none (t ∷ rest) split (end, stops) = stops (fewer text (a.before ++ t ∷ []) rest (decls, [], subst (IsProgram decls) (sym (append-nil (map (symbol_of text) ((a.before ++ t ∷ []) ++ rest)))) (subst (λ (l : List Token). Spell text l decls) (split ∙ sym (append_assoc a.before (t ∷ []) rest)) is)))

-- ---- the parser's place

-- tokens whose symbols split
record Parts (text : List ℕ) (tokens : List Token) (a b : List Symbol) : Type 0 where
  before : List Token
  rest : List Token
  is : tokens ≡ before ++ rest
  first : map (symbol_of text) before ≡ a
  second : map (symbol_of text) rest ≡ b
  left : drop (length tokens - length b) tokens ≡ rest

parts : (text : List ℕ) (tokens : List Token) (a b : List Symbol) → map (symbol_of text) tokens ≡ a ++ b → Parts text tokens a b
parts text tokens [] b e = record { before = []; rest = tokens; is = refl; first = refl; second = e; left = nothing (length tokens - length b) (let n = lengths tokens ∙ ap length e in omega (arith, n)) }
  where
    lengths : (l : List Token) → length l ≡ length (map (symbol_of text) l)
    lengths [] = refl
    lengths (x ∷ l) = ap (λ (n : ℕ). suc n) (lengths l)

    nothing : (n : ℕ) → n ≡ 0 → drop n tokens ≡ tokens
    nothing n e = rw e refl
parts text [] (s ∷ a) b e = absurd cc
parts text (t ∷ tokens) (s ∷ a) b e =
    let more = parts text tokens a b cc in
    record { before = t ∷ more.before; rest = more.rest; is = ap (λ (l : List Token). t ∷ l) more.is; first = rw more.first (ap (λ (x : Symbol). x ∷ a) (same e)); second = more.second; left = later (length tokens - length b) (length (t ∷ tokens) - length b) more.rest more.left (fewer_left tokens a b (ap rest_of e)) }
  where
    rest_of : List Symbol → List Symbol
    rest_of [] = []
    rest_of (x ∷ l) = l

    same : symbol_of text t ∷ map (symbol_of text) tokens ≡ s ∷ (a ++ b) → symbol_of text t ≡ s
    same e = cc

    lengths : (l : List Token) → length l ≡ length (map (symbol_of text) l)
    lengths [] = refl
    lengths (x ∷ l) = ap (λ (n : ℕ). suc n) (lengths l)

    fewer_left : (l : List Token) (a b : List Symbol) → map (symbol_of text) l ≡ a ++ b → suc (length l) - length b ≡ suc (length l - length b)
    fewer_left l a b e = let n = lengths l ∙ ap length e in omega (arith, n, length-append a b)

    later : (n m : ℕ) (rest : List Token) → drop n tokens ≡ rest → m ≡ suc n → drop m (t ∷ tokens) ≡ rest
    later n m rest d e = rw e d

stuck_of : (text : List ℕ) (tokens : List Token) (left : List Symbol) → Told_of program_at IsProgram (map (symbol_of text) tokens) (stuck left) → program_at (map (symbol_of text) tokens) ≡ stuck left → IsUnexpected (place_at (length text) (drop (length tokens - length left) tokens)) text tokens
stuck_of text tokens left (used, is, (decls, more, program), steady) stuck_there = let p = parts text tokens used left is in
    record {
      before = p.before;
      rest = p.rest;
      split = p.is;
      begun = (decls, more, subst (λ (l : List Symbol). IsProgram decls (l ++ more)) (sym p.first) program);
      stops = subst (λ (l : List Token). StopsAt (place_at (length text) l) text p.before p.rest) (sym p.left) (stops p.before p.rest p.is p.first p.second);
    }
  where
    never : {A : Type 0} (x : A) (a b : List Symbol) → ◌≡◌ {A = Read A} (got x a) (stuck b) → ⊥
    never x a b e = cc

    stops : (before rest : List Token) → tokens ≡ before ++ rest → map (symbol_of text) before ≡ used → map (symbol_of text) rest ≡ left → StopsAt (place_at (length text) rest) text before rest
    stops before [] split first second =
        (refl, λ ds spelled. never ds [] left (sym (program_whole ds (map (symbol_of text) tokens) (subst (λ (l : List Token). Spell text l ds) (sym (split ∙ append-nil before)) spelled)) ∙ stuck_there))
    stops before (t ∷ rest) split first second = (
      refl,
      λ begun. let (ds, behind, program) = begun in
          let spelled : IsProgram ds (used ++ symbol_of text t ∷ behind) = subst (IsProgram ds) (ap (λ (l : List Symbol). l ++ behind) (map-append (symbol_of text) before (t ∷ []) ∙ ap (λ (l : List Symbol). l ++ symbol_of text t ∷ []) first) ∙ append_assoc used (symbol_of text t ∷ []) behind) program in
          never ds [] (symbol_of text t ∷ behind) (sym (program_whole ds (used ++ symbol_of text t ∷ behind) spelled) ∙ steady (symbol_of text t) (map (symbol_of text) rest) behind (sym second)),
    )

-- no more is left than there was
within : (text : List ℕ) (tokens : List Token) (left : List Symbol) → Told_of program_at IsProgram (map (symbol_of text) tokens) (stuck left) → length left ≤ length tokens
within text tokens left (used, is, some, steady) = let p = parts text tokens used left is in omega (arith, lengths p.rest, ap length p.second, ap length p.is, length-append p.before p.rest)
  where
    lengths : (l : List Token) → length l ≡ length (map (symbol_of text) l)
    lengths [] = refl
    lengths (x ∷ l) = ap (λ (n : ℕ). suc n) (lengths l)

-- no more symbols are left than there are tokens
pub left_within : (text : List ℕ) (tokens : List Token) (left : List Symbol) → program_at (map (symbol_of text) tokens) ≡ stuck left → length left ≤ length tokens
left_within text tokens left e = within text tokens left (subst (Told_of program_at IsProgram (map (symbol_of text) tokens)) e (told_program (map (symbol_of text) tokens)))

-- where the parser is stuck
pub unexpected : (text : List ℕ) (tokens : List Token) (left : List Symbol) → program_at (map (symbol_of text) tokens) ≡ stuck left → IsUnexpected (place_at (length text) (drop (length tokens - length left) tokens)) text tokens
unexpected text tokens left e = stuck_of text tokens left (subst (Told_of program_at IsProgram (map (symbol_of text) tokens)) e (told_program (map (symbol_of text) tokens))) e

-- what the parser got
got_of : (text : List ℕ) (tokens : List Token) (decls : List Decl) → Told_of program_at IsProgram (map (symbol_of text) tokens) (got decls []) → Spell text tokens decls
got_of text tokens decls (used, is, program, steady) = subst (IsProgram decls) (sym (is ∙ append-nil used)) program

all : (text : List ℕ) (tokens : List Token) (decls : List Decl) → program_at (map (symbol_of text) tokens) ≡ got decls [] → Spell text tokens decls
all text tokens decls e = got_of text tokens decls (subst (Told_of program_at IsProgram (map (symbol_of text) tokens)) e (told_program (map (symbol_of text) tokens)))

-- what the parser got is spelled by the tokens
pub spelled : (text : List ℕ) (tokens : List Token) (decls : List Decl) (left : List Symbol) → program_at (map (symbol_of text) tokens) ≡ got decls left → Spell text tokens decls
spelled text tokens decls left e = all text tokens decls (e ∙ ap (λ (l : List Symbol). got decls l) (at_end (length (map (symbol_of text) tokens)) [] decls (map (symbol_of text) tokens) left e))

-- no other declarations are spelled
pub only : (text : List ℕ) (tokens : List Token) (decls ds : List Decl) (left : List Symbol) → program_at (map (symbol_of text) tokens) ≡ got decls left → Spell text tokens ds → decls ≡ ds
only text tokens decls ds left e is = same (sym e ∙ program_whole ds (map (symbol_of text) tokens) is)
  where
    thing : List Decl → Read (List Decl) → List Decl
    thing other (got x rest) = x
    thing other (stuck rest) = other

    same : got decls left ≡ got ds [] → decls ≡ ds
    same h = ap (thing decls) h

-- one token list has at most one declaration list
pub one_reading : (text : List ℕ) (tokens : List Token) (decls others : List Decl) → Spell text tokens decls → Spell text tokens others → decls ≡ others
one_reading text tokens decls others a b = only text tokens decls others [] (program_whole decls (map (symbol_of text) tokens) a) b

-- a program isn't stuck
pub not_stuck : (text : List ℕ) (tokens : List Token) (ds : List Decl) (left : List Symbol) → program_at (map (symbol_of text) tokens) ≡ stuck left → Spell text tokens ds → ⊥
not_stuck text tokens ds left e is = let h : ◌≡◌ {A = Read (List Decl)} (got ds []) (stuck left) = sym (program_whole ds (map (symbol_of text) tokens) is) ∙ e in absurd cc
