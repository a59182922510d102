-- The formatted text has the same declarations, and is the formatted text of its own.
use Rattle.std.proofs.Common.{◌≡◌, ◌≤◌, ◌+◌, ◌-◌, ℕ, Bool, true, false, List, [], ◌∷◌, ◌++◌, length, length-take, drop, map, codes, Option, Some, None, refl, sym, ap, subst, ◌∙◌, arith}
use Rattle.std.specs.List.{flat_map}
use Rattle.std.specs.Option.{option_map}
use Rattle.std.proofs.lemmas.List.{drop-drop, map-append}
use Rattle.flux_lexer.specs.declared.kinds.Token.{Token}
use Rattle.flux_lexer.specs.declared.reading.TheConstants.{PROGRAM_LIMIT}
use Rattle.flux_lexer.specs.declared.kinds.TokenKind.{TokenKind}
use Rattle.flux_lexer.specs.declared.kinds.TokenKind.TheVariants.{Identifier, Number}
use Rattle.flux_lexer.specs.Pieces.{Piece, blank, remark, comment, token, IsToken}
use Rattle.flux_lexer.specs.Texts.{Part, Laid, tokens_of, token_of}
use Rattle.flux_syntax.specs.declared.declarations.Word.{Word}
use Rattle.flux_syntax.specs.declared.declarations.Decl.{Decl}
use Rattle.flux_syntax.specs.declared.declarations.Decl.TheVariants as decl
use Rattle.flux_syntax.specs.Symbols.{Symbol, is, symbol_of}
use Rattle.flux_syntax.specs.Grammar.{IsProgram}
use Rattle.flux_syntax.specs.Formatted.{joined, param_text, pattern_text, patterns_text, word_text, codes_text, constraint_text, line_of, formatted}
use Rattle.flux_syntax.specs.Again.{bare, bare_param, bare_constraint, bare_decl, AreOfText, Gives}
use Rattle.flux_syntax.proofs.Told.{same_kind}
use Rattle.flux_syntax.proofs.Printed.{seen, seen_at}
use Rattle.flux_syntax.proofs.Backs.{IsGood, Good, back_all}

-- ---- the names of a text are names

same_length : (at n : ℕ) → (at + n) - at ≡ n
same_length at n = omega arith

good_token : (text : List ℕ) (at n : ℕ) (kind : TokenKind) → IsToken kind n (drop at text) → IsGood (symbol_of text (record { kind = kind; start = at; end = at + n }))
good_token text at n kind t = one (is Identifier kind) refl (is Number kind) refl
  where
    one : (b : Bool) → is Identifier kind ≡ b → (c : Bool) → is Number kind ≡ c → IsGood (symbol_of text (record { kind = kind; start = at; end = at + n }))
    one true e c f = let own = same_kind Identifier kind e in rw (e, same_length at n) (record { kind = t.spelled ∙ ap Some (sym own); short = omega (arith, t.short, length-take n (drop at text)) })
    one false e true f = let own = same_kind Number kind f in rw (e, f, same_length at n) (record { kind = t.spelled ∙ ap Some (sym own); short = omega (arith, t.short, length-take n (drop at text)) })
    one false e false f = rw (e, f) tt

good_part : (text : List ℕ) (at : ℕ) (piece : Piece) (n : ℕ) (parts : List Part) → Laid (record { piece = piece; length = n } ∷ parts) [] (drop at text) → Good (map (symbol_of text) (tokens_of (at + n) parts))
    → Good (map (symbol_of text) (tokens_of at (record { piece = piece; length = n } ∷ parts)))
good_part text at blank n parts laid more = more
good_part text at remark n parts laid more = more
good_part text at comment n parts laid more = more
good_part text at (token kind) n parts laid more = (good_token text at n kind laid.0, more)

-- the names and numbers of a text are spelled as such
pub good_parts : (text : List ℕ) (at : ℕ) (parts : List Part) → Laid parts [] (drop at text) → Good (map (symbol_of text) (tokens_of at parts))
good_parts text at [] laid = tt
good_parts text at (part ∷ parts) laid =
    good_part text at part.piece part.length parts laid (good_parts text (at + part.length) parts (subst (Laid parts []) (drop-drop part.length at text ∙ ap (λ (i : ℕ). drop i text) (omega arith)) laid.1))

-- ---- what is seen are the symbols of the tokens

seen_token : (text : List ℕ) (at n : ℕ) (piece : Piece) → map (symbol_of text) (token_of piece at n) ≡ seen_at piece at n (drop at text)
seen_token text at n blank = refl
seen_token text at n remark = refl
seen_token text at n comment = refl
seen_token text at n (token kind) = rw (same_length at n) refl

seen_all : (text : List ℕ) (at : ℕ) (parts : List Part) → map (symbol_of text) (tokens_of at parts) ≡ seen at parts (drop at text)
seen_all text at [] = refl
seen_all text at (part ∷ parts) =
    map-append (symbol_of text) (token_of part.piece at part.length) (tokens_of (at + part.length) parts)
    ∙ ap (λ (l : List Symbol). l ++ map (symbol_of text) (tokens_of (at + part.length) parts)) (seen_token text at part.length part.piece)
    ∙ ap (λ (l : List Symbol). seen_at part.piece at part.length (drop at text) ++ l) (seen_all text (at + part.length) parts ∙ ap (seen (at + part.length) parts) (sym (drop-drop part.length at text ∙ ap (λ (i : ℕ). drop i text) (omega arith))))

-- ---- places don't matter to the text

joined_bare : {A : Type 0} (between : List ℕ) (text : A → List ℕ) (plain : A → A) → ((x : A) → text (plain x) ≡ text x) → (xs : List A) → joined between text (map plain xs) ≡ joined between text xs
joined_bare between text plain same [] = refl
joined_bare {A} between text plain same (x ∷ xs) = rw (same x, others xs) refl
  where
    others : (xs : List A) → flat_map (λ y. between ++ text y) (map plain xs) ≡ flat_map (λ y. between ++ text y) xs
    others [] = refl
    others (y ∷ ys) = rw (same y, others ys) refl

pattern_bare : (p : Option Word) → pattern_text (option_map bare p) ≡ pattern_text p
pattern_bare None = refl
pattern_bare (Some word) = refl

codes_bare : (numbers : List Word) → codes_text (map bare numbers) ≡ codes_text numbers
codes_bare [] = refl
codes_bare (number ∷ numbers) = ap (λ (l : List ℕ). codes ":(" ++ (l ++ codes ")")) (joined_bare (codes ", ") word_text bare (λ w. refl) (number ∷ numbers))

patterns_bare : (patterns : Option (List (Option Word))) → patterns_text (option_map (map (option_map bare)) patterns) ≡ patterns_text patterns
patterns_bare None = refl
patterns_bare (Some patterns) = rw (joined_bare (codes ", ") pattern_text (option_map bare) pattern_bare patterns) refl

line_bare : (d : Decl) → line_of (bare_decl d) ≡ line_of d
line_bare (decl.Signature called ins outs) = rw (joined_bare (codes ", ") param_text bare_param (λ p. refl) ins, joined_bare (codes ", ") param_text bare_param (λ p. refl) outs) refl
line_bare (decl.Flow called patterns members) = rw (patterns_bare patterns, joined_bare (codes " -> ") word_text bare (λ w. refl) members) refl
line_bare (decl.Source called target) = refl
line_bare (decl.Typedef called function) = refl
line_bare (decl.Handler node numbers handler) = rw (codes_bare numbers) refl
line_bare (decl.Atomic node constraints) = rw (joined_bare (codes ", ") constraint_text bare_constraint (λ c. refl) constraints) refl
line_bare (decl.Session source function) = refl

formatted_bare : (decls : List Decl) → formatted (map bare_decl decls) ≡ formatted decls
formatted_bare [] = refl
formatted_bare (d ∷ decls) = rw (line_bare d, formatted_bare decls) refl

-- declarations that differ in places alone have one text
pub same_text : (decls others : List Decl) → map bare_decl others ≡ map bare_decl decls → formatted others ≡ formatted decls
same_text decls others alike = sym (formatted_bare others) ∙ ap formatted alike ∙ formatted_bare decls

-- ---- the formatted text

-- the formatted text has the declarations again, where it isn't too long
pub gives : (decls : List Decl) → AreOfText decls → length (formatted decls) ≤ PROGRAM_LIMIT → Gives decls (formatted decls)
gives decls of few =
    let good = subst (λ (l : List Token). Good (map (symbol_of of.text) l)) (sym of.declared.are.are) (good_parts of.text 0 of.declared.are.parts of.declared.are.laid) in
    let (s, (others, alike, program), lexes) = back_all decls (map (symbol_of of.text) of.declared.tokens) of.declared.spelled good 0 in
    record {
      others = others;
      declared = record {
        tokens = tokens_of 0 lexes.parts;
        are = record { few = few; parts = lexes.parts; laid = lexes.laid; are = refl };
        spelled = subst (IsProgram others) (sym (seen_all (formatted decls) 0 lexes.parts ∙ lexes.seen)) program;
      };
      alike = alike;
      again = same_text decls others alike;
    }
