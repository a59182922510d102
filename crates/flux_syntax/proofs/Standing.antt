-- The words of a text's declarations at which faults may be are names and codes that are in it.
use Rattle.std.proofs.Common.{◌≡◌, ◌≤◌, ℕ, inl, inr, Bool, true, false, Option, Some, None, List, [], ◌∷◌, ◌++◌, length, map, refl, sym, subst, arith}
use Rattle.std.specs.List.{AllByRecursion, filter_map}
use Rattle.flux_lexer.specs.declared.kinds.Token.{Token}
use Rattle.flux_lexer.specs.declared.reading.TheConstants.{PROGRAM_LIMIT}
use Rattle.flux_lexer.specs.declared.kinds.TokenKind.{TokenKind}
use Rattle.flux_lexer.specs.declared.kinds.TokenKind.TheVariants.{Identifier, Number, CloseParen, CloseBracket, CloseBrace, Arrow, Equals, Semicolon}
use Rattle.flux_syntax.specs.declared.declarations.Word.{Word}
use Rattle.flux_syntax.specs.declared.declarations.Param.{Param}
use Rattle.flux_syntax.specs.declared.declarations.Constraint.{Constraint}
use Rattle.flux_syntax.specs.declared.declarations.Decl.{Decl}
use Rattle.flux_syntax.specs.declared.declarations.Decl.TheVariants.{Signature, Flow, Source, Typedef, Handler, Atomic, Session}
use Rattle.flux_syntax.specs.Symbols.{Symbol, name, digits, mark, is, symbol_of}
use Rattle.flux_syntax.specs.Grammar.{More, Listed, Maybe, IsParam, AreParams, IsPattern, ArePatterns, IsMember, IsCode, AreCodes, IsHeld, IsConstraint, IsDeclaration, IsProgram}
use Rattle.flux_syntax.specs.Declares.{Declares}
use Rattle.flux_syntax.specs.steps.Cursors.{Lies}
pub use Rattle.flux_syntax.proofs.Spelled.{IsName}
use Rattle.flux_syntax.proofs.Backs.{IsGood, Good}
use Rattle.flux_syntax.proofs.Formats.{good_parts}
use Rattle.flux_syntax.proofs.Fitting.{fit}

-- a word is in a text: it is a name, and has a place there
pub record StandsIn (text : List ℕ) (word : Word) : Type 0 where
  pub name : IsName word.text
  pub within : word.at ≤ length text

-- the words of patterns that aren't `_`
abbrev pub pattern_words : Option (List (Option Word)) → List Word
pattern_words None = []
pattern_words (Some patterns) = filter_map (λ pattern. pattern) patterns

-- the names of a declaration, but for those of parameters
abbrev pub fault_words : Decl → List Word
fault_words (Signature called ins outs) = called ∷ (map (λ param. param.ty) ins ++ map (λ param. param.ty) outs)
fault_words (Flow called patterns members) = called ∷ (pattern_words patterns ++ members)
fault_words (Source called target) = called ∷ target ∷ []
fault_words (Typedef called function) = called ∷ function ∷ []
fault_words (Handler node codes handler) = node ∷ handler ∷ []
fault_words (Atomic node constraints) = node ∷ map (λ constraint. constraint.name) constraints
fault_words (Session source function) = source ∷ function ∷ []

-- its codes
abbrev pub code_words : Decl → List Word
code_words (Handler node codes handler) = codes
code_words other = []

-- the words of all declarations are in the text
abbrev pub AllStandIn : List ℕ → List Decl → Type 0
AllStandIn text decls = AllByRecursion (λ decl. AllByRecursion (StandsIn text) (fault_words decl)
    × AllByRecursion (λ word. word.at ≤ length text) (code_words decl)) decls

-- ---- from symbols to words

module _ (W N : Word → Type 0) where
  abbrev Holds : Symbol → Type 0
  Holds (name word) = W word
  Holds (digits word) = N word
  Holds (mark kind) = Unit {0}

  abbrev AllHold : List Symbol → Type 0
  AllHold symbols = AllByRecursion Holds symbols

  abbrev AllWords : List Word → Type 0
  AllWords words = AllByRecursion W words

  split : (a b : List Symbol) → AllHold (a ++ b) → AllHold a × AllHold b
  split [] b h = (tt, h)
  split (s ∷ a) b h = let both = split a b h.1 in ((h.0, both.0), both.1)

  joined : (a b : List Word) → AllWords a → AllWords b → AllWords (a ++ b)
  joined [] b x y = y
  joined (w ∷ a) b x y = (x.0, joined a b x.1 y)

  -- each item of a list has what its symbols give
  more_words : {A : Type 0} (P : A → List Symbol → Type 0) (Q : A → Type 0) (between : TokenKind) → ((x : A) (a : List Symbol) → P x a → AllHold a → Q x) → (xs : List A) (s : List Symbol) → More P between xs s → AllHold s → AllByRecursion Q xs
  more_words P Q between each [] s m h = tt
  more_words P Q between each (x ∷ xs) s (a, b, same, p, m) h =
      let both = split a b (subst AllHold same h).1 in (each x a p both.0, more_words P Q between each xs b m both.1)

  listed_words : {A : Type 0} (P : A → List Symbol → Type 0) (Q : A → Type 0) (between : TokenKind) → ((x : A) (a : List Symbol) → P x a → AllHold a → Q x) → (xs : List A) (s : List Symbol) → Listed P between xs s → AllHold s → AllByRecursion Q xs
  listed_words P Q between each [] s m h = tt
  listed_words P Q between each (x ∷ xs) s (a, b, same, p, m) h =
      let both = split a b (subst AllHold same h) in (each x a p both.0, more_words P Q between each xs b m both.1)

  maybe_words : {A : Type 0} (P : A → List Symbol → Type 0) (Q : A → Type 0) (between : TokenKind) → ((x : A) (a : List Symbol) → P x a → AllHold a → Q x) → (xs : List A) (s : List Symbol) → Maybe P between xs s → AllHold s → AllByRecursion Q xs
  maybe_words P Q between each [] s m h = tt
  maybe_words P Q between each (x ∷ xs) s m h = listed_words P Q between each (x ∷ xs) s m h

  mapped : {A : Type 0} (of : A → Word) (xs : List A) → AllByRecursion (λ x. W (of x)) xs → AllWords (map of xs)
  mapped of [] h = tt
  mapped of (x ∷ xs) h = (h.0, mapped of xs h.1)

  params_words : (params : List Param) (s : List Symbol) → AreParams params s → AllHold s → AllWords (map (λ param. param.ty) params)
  params_words params s (a, same, m) h =
      let inner = split a (mark CloseParen ∷ []) (subst AllHold same h).1 in
      mapped (λ param. param.ty) params (maybe_words IsParam (λ param. W param.ty) _ (λ p b is g. (subst AllHold is g).0) params a m inner.0)

  abbrev OfPattern : Option Word → Type 0
  OfPattern None = Unit {0}
  OfPattern (Some word) = W word

  pattern_is : (pattern : Option Word) (s : List Symbol) → IsPattern pattern s → AllHold s → OfPattern pattern
  pattern_is None s is h = tt
  pattern_is (Some word) s is h = (subst AllHold is h).0

  named : (patterns : List (Option Word)) → AllByRecursion OfPattern patterns → AllWords (filter_map (λ pattern. pattern) patterns)
  named [] h = tt
  named (None ∷ patterns) h = named patterns h.1
  named (Some word ∷ patterns) h = (h.0, named patterns h.1)

  patterns_words : (patterns : Option (List (Option Word))) (s : List Symbol) → ArePatterns patterns s → AllHold s → AllWords (pattern_words patterns)
  patterns_words None s is h = tt
  patterns_words (Some patterns) s (a, same, l) h =
      let inner = split a (mark CloseBracket ∷ []) (subst AllHold same h).1.1 in
      named patterns (listed_words IsPattern OfPattern _ pattern_is patterns a l inner.0)

  codes_words : (codes : List Word) (s : List Symbol) → AreCodes codes s → AllHold s → AllByRecursion N codes
  codes_words [] s is h = tt
  codes_words (code ∷ codes) s (a, same, l) h =
      let inner = split a (mark CloseParen ∷ []) (subst AllHold same h).1.1 in
      listed_words IsCode N _ (λ c b is g. (subst AllHold is g).0) (code ∷ codes) a l inner.0

  constraint_word : (c : Constraint) (s : List Symbol) → IsConstraint c s → AllHold s → W c.name
  constraint_word c s (m, marked, held) h = one c.session held
    where
      one : (session : Bool) → IsHeld c.name session m s → W c.name
      one false e = (subst AllHold e h).0
      one true (inl e) = (subst AllHold e h).0
      one true (inr e) = (subst AllHold e h).0

  abbrev Words : Decl → Type 0
  Words d = AllWords (fault_words d) × AllByRecursion N (code_words d)

  decl_words : (d : Decl) (s : List Symbol) → IsDeclaration d s → AllHold s → Words d
  decl_words (Signature called ins outs) s (a, b, same, i, o) h =
      let all = subst AllHold same h in
      let first = split a (mark Arrow ∷ (b ++ mark Semicolon ∷ [])) all.1 in
      let second = split b (mark Semicolon ∷ []) first.1.1 in
      ((all.0, joined (map (λ param. param.ty) ins) (map (λ param. param.ty) outs) (params_words ins a i first.0) (params_words outs b o second.0)), tt)
  decl_words (Flow called patterns members) s (a, b, same, p, m) h =
      let all = subst AllHold same h in
      let first = split a (mark Equals ∷ (b ++ mark Semicolon ∷ [])) all.1 in
      let second = split b (mark Semicolon ∷ []) first.1.1 in
      ((all.0, joined (pattern_words patterns) members (patterns_words patterns a p first.0) (maybe_words IsMember W _ (λ w c is g. (subst AllHold is g).0) members b m second.0)), tt)
  decl_words (Source called target) s same h = let all = subst AllHold same h in ((all.1.0, (all.1.1.1.0, tt)), tt)
  decl_words (Typedef called function) s same h = let all = subst AllHold same h in ((all.1.0, (all.1.1.0, tt)), tt)
  decl_words (Handler node codes handler) s (a, same, cs) h =
      let all = subst AllHold same h in
      let first = split a (mark Arrow ∷ name handler ∷ mark Semicolon ∷ []) all.1.1.1 in
      ((all.1.1.0, (first.1.1.0, tt)), codes_words codes a cs first.0)
  decl_words (Atomic node constraints) s (a, same, listed) h =
      let all = subst AllHold same h in
      let first = split a (mark CloseBrace ∷ mark Semicolon ∷ []) all.1.1.1.1 in
      ((all.1.0, mapped (λ c. c.name) constraints (listed_words IsConstraint (λ c. W c.name) _ constraint_word constraints a listed first.0)), tt)
  decl_words (Session source function) s same h = let all = subst AllHold same h in ((all.1.0, (all.1.1.1.0, tt)), tt)

  program_words : (decls : List Decl) (s : List Symbol) → IsProgram decls s → AllHold s → AllByRecursion Words decls
  program_words [] s p h = tt
  program_words (d ∷ decls) s (a, b, same, p, more) h = let both = split a b (subst AllHold same h) in (decl_words d a p both.0, program_words decls b more both.1)

-- ---- the tokens of a text

abbrev Within : List ℕ → Word → Type 0
Within text word = word.at ≤ length text

symbol_stands : (text : List ℕ) (token : Token) → Lies text token → IsGood (symbol_of text token) → Holds (StandsIn text) (Within text) (symbol_of text token)
symbol_stands text token lies good = one (is Identifier token.kind) refl (is Number token.kind) refl
  where
    one : (t : Bool) → is Identifier token.kind ≡ t → (u : Bool) → is Number token.kind ≡ u → Holds (StandsIn text) (Within text) (symbol_of text token)
    one true e u f = rw e (record { name = (let h : IsGood (symbol_of text token) = good in rw e at h); within = omega (arith, lies.rising, lies.within) })
    one false e true f = rw (e, f) (omega (arith, lies.rising, lies.within))
    one false e false f = rw (e, f) tt

symbols_stand : (text : List ℕ) (tokens : List Token) → AllByRecursion (Lies text) tokens → Good (map (symbol_of text) tokens) → AllHold (StandsIn text) (Within text) (map (symbol_of text) tokens)
symbols_stand text [] lie good = tt
symbols_stand text (token ∷ tokens) lie good = (symbol_stands text token lie.0 good.0, symbols_stand text tokens lie.1 good.1)

-- the words of a text's declarations are in it
pub all_stand : (decls : List Decl) (text : List ℕ) → Declares decls text → AllStandIn text decls
all_stand decls text d =
    let fits = fit text d.tokens d.are in
    let good : Good (map (symbol_of text) d.tokens) = subst (λ (ts : List Token). Good (map (symbol_of text) ts)) (sym d.are.are) (good_parts text 0 d.are.parts d.are.laid) in
    program_words (StandsIn text) (Within text) decls (map (symbol_of text) d.tokens) d.spelled (symbols_stand text d.tokens fits.lie good)

-- a text with declarations isn't too long
pub text_few : (decls : List Decl) (text : List ℕ) → Declares decls text → length text ≤ PROGRAM_LIMIT
text_few decls text d = d.are.few
