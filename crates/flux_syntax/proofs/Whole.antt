-- What is spelled is read: readers get each thing from its symbols, whatever follows that doesn't go on with it.
use Rattle.std.proofs.Common.{◌≡◌, ◌≤◌, ℕ, zero, suc, Bool, true, false, List, [], ◌∷◌, ◌++◌, length, Option, Some, None, refl, sym, ap, ◌∙◌, arith, inl, inr, append_assoc, length-append}
use Rattle.std.proofs.lemmas.List.{append-nil}
use Rattle.flux_values.specs.declared.answers.Mode.{Mode}
use Rattle.flux_values.specs.declared.answers.Mode.TheVariants.{Reader, Writer}
use Rattle.flux_lexer.specs.declared.kinds.TokenKind.{TokenKind}
use Rattle.flux_lexer.specs.declared.kinds.TokenKind.TheVariants.{Identifier, OpenParen, CloseParen, CloseBracket, CloseBrace, Comma, Semicolon, Colon, Equals, Question, Bang, ThinArrow, Arrow}
use Rattle.flux_syntax.specs.declared.declarations.Word.{Word}
use Rattle.flux_syntax.specs.declared.declarations.Param.{Param}
use Rattle.flux_syntax.specs.declared.declarations.Constraint.{Constraint}
use Rattle.flux_syntax.specs.declared.declarations.Decl.{Decl}
use Rattle.flux_syntax.specs.declared.declarations.Decl.TheVariants as decl
use Rattle.flux_syntax.specs.Symbols.{Symbol, name, mark, has_word}
use Rattle.flux_syntax.specs.Grammar.{More, Listed, Maybe, stars, IsParam, AreParams, IsPattern, ArePatterns, IsMember, IsCode, AreCodes, IsMark, IsHeld, IsConstraint, IsDeclaration}
use Rattle.flux_syntax.specs.steps.Reading.{Read, got, begins, more_at, listed_at, maybe_at, stars_at, name_at, number_at, param_at, pattern_at, constraint_at, params_at, cases_at, codes_at, declaration_at}
use Rattle.flux_syntax.proofs.Told.{of_mark}

-- ---- lists

-- a reader gets each thing where an end follows it, and what is between is an end
pub record Gets {A : Type 0} (read : List Symbol → Read A) (P : A → List Symbol → Type 0) (between : TokenKind) (Ends : List Symbol → Type 0) : Type 0 where
  pub whole : (x : A) (a rest : List Symbol) → P x a → Ends rest → read (a ++ rest) ≡ got x rest
  pub goes_on : (rest : List Symbol) → Ends (mark between ∷ rest)

ends_behind : {A : Type 0} (read : List Symbol → Read A) (P : A → List Symbol → Type 0) (between : TokenKind) (Ends : List Symbol → Type 0) → Gets read P between Ends → (xs : List A) (b rest : List Symbol) → More P between xs b → Ends rest → Ends (b ++ rest)
ends_behind read P between Ends gets [] b rest none ends = rw none ends
ends_behind read P between Ends gets (x ∷ xs) b rest (a, c, is, p, m) ends = rw is (gets.goes_on ((a ++ c) ++ rest))

more_whole : {A : Type 0} (read : List Symbol → Read A) (P : A → List Symbol → Type 0) (between : TokenKind) (Ends : List Symbol → Type 0) → has_word between ≡ false → Gets read P between Ends → (n : ℕ) (items xs : List A) (s rest : List Symbol)
    → More P between xs s → Ends rest → begins between rest ≡ false → length (s ++ rest) ≤ n → more_at read between n items (s ++ rest) ≡ got (items ++ xs) rest
more_whole read P between Ends no_word gets zero items [] s rest none ends other le = rw none (ap (λ (l : List _). got l rest) (sym (append-nil items)))
more_whole read P between Ends no_word gets (suc n) items [] s rest none ends other le = rw (none, other) (ap (λ (l : List _). got l rest) (sym (append-nil items)))
more_whole read P between Ends no_word gets zero items (x ∷ xs) s rest (a, b, is, p, m) ends other le = absurd (let h : suc (length ((a ++ b) ++ rest)) ≤ 0 = rw is at le in omega (arith, h))
more_whole read P between Ends no_word gets (suc n) items (x ∷ xs) s rest (a, b, is, p, m) ends other le =
    let own = of_mark between no_word in
    let le_n : length (b ++ rest) ≤ n = (let h : suc (length ((a ++ b) ++ rest)) ≤ suc n = rw is at le in let all = ap length (append_assoc a b rest) in omega (arith, h, all, length-append a (b ++ rest))) in
    let got_one = gets.whole x a (b ++ rest) p (ends_behind read P between Ends gets xs b rest m ends) in
    rw (is, own, append_assoc a b rest, got_one) (more_whole read P between Ends no_word gets n (items ++ x ∷ []) xs b rest m ends other le_n ∙ ap (λ (l : List _). got l rest) (append_assoc items (x ∷ []) xs))

-- a list that is spelled is read
pub listed_whole : {A : Type 0} (read : List Symbol → Read A) (P : A → List Symbol → Type 0) (between : TokenKind) (Ends : List Symbol → Type 0) → has_word between ≡ false → Gets read P between Ends → (xs : List A) (s rest : List Symbol)
    → Listed P between xs s → Ends rest → begins between rest ≡ false → listed_at read between (s ++ rest) ≡ got xs rest
listed_whole read P between Ends no_word gets [] s rest h ends other = absurd h
listed_whole read P between Ends no_word gets (x ∷ xs) s rest (a, b, is, p, m) ends other =
    let got_one = gets.whole x a (b ++ rest) p (ends_behind read P between Ends gets xs b rest m ends) in
    rw (is, append_assoc a b rest, got_one) (more_whole read P between Ends no_word gets (length (b ++ rest)) (x ∷ []) xs b rest m ends other (omega arith))

-- a list that may be empty is read where it is spelled
pub maybe_whole : {A : Type 0} (read : List Symbol → Read A) (P : A → List Symbol → Type 0) (between : TokenKind) (Ends : List Symbol → Type 0) → has_word between ≡ false → Gets read P between Ends → ((x : A) (a rest : List Symbol) → P x a → begins Identifier (a ++ rest) ≡ true) → (xs : List A) (s rest : List Symbol)
    → Maybe P between xs s → Ends rest → begins between rest ≡ false → begins Identifier rest ≡ false → maybe_at read between (s ++ rest) ≡ got xs rest
maybe_whole read P between Ends no_word gets starts [] s rest none ends other no_one = rw (none, no_one) refl
maybe_whole read P between Ends no_word gets starts (x ∷ xs) s rest (a, b, is, p, m) ends other no_one =
    let first : begins Identifier (s ++ rest) ≡ true = rw (is, append_assoc a b rest) (starts x a (b ++ rest) p) in
    rw first (listed_whole read P between Ends no_word gets (x ∷ xs) s rest (a, b, is, p, m) ends other)

-- ---- what lists are made of

abbrev Anything : List Symbol → Type 0
Anything rest = Unit {0}

stars_whole : (n : ℕ) (w : Word) (rest : List Symbol) → stars_at (stars n ++ name w ∷ rest) ≡ got n (name w ∷ rest)
stars_whole zero w rest = refl
stars_whole (suc n) w rest = rw (stars_whole n w rest) refl

gets_param : Gets param_at IsParam Comma Anything
gets_param = record {
  whole = λ p a rest is ends. rw (is, append_assoc (stars p.stars) (name p.name ∷ []) rest, stars_whole p.stars p.name rest) refl;
  goes_on = λ rest. tt;
}

pattern_whole : (x : Option Word) (a rest : List Symbol) → IsPattern x a → pattern_at (a ++ rest) ≡ got x rest
pattern_whole None a rest is = rw is refl
pattern_whole (Some w) a rest is = rw is refl

gets_pattern : Gets pattern_at IsPattern Comma Anything
gets_pattern = record { whole = λ x a rest is ends. pattern_whole x a rest is; goes_on = λ rest. tt }

gets_member : Gets name_at IsMember ThinArrow Anything
gets_member = record { whole = λ w a rest is ends. rw is refl; goes_on = λ rest. tt }

gets_code : Gets number_at IsCode Comma Anything
gets_code = record { whole = λ w a rest is ends. rw is refl; goes_on = λ rest. tt }

record Quiet (rest : List Symbol) : Type 0 where
  question : begins Question rest ≡ false
  bang : begins Bang rest ≡ false
  paren : begins OpenParen rest ≡ false

constraint_whole : (called : Word) (mode : Mode) (session : Bool) (m a rest : List Symbol) → IsMark mode m → IsHeld called session m a → Quiet rest → constraint_at (a ++ rest) ≡ got (record { name = called; mode = mode; session = session }) rest
constraint_whole called Reader false m a rest w h q = rw (h, w, q.paren) refl
constraint_whole called Reader true m a rest w (inl h) q = rw (h, w) refl
constraint_whole called Reader true m a rest w (inr h) q = rw (h, w) refl
constraint_whole called Writer false m a rest (inl w) h q = rw (h, w, q.question, q.bang, q.paren) refl
constraint_whole called Writer false m a rest (inr w) h q = rw (h, w, q.paren) refl
constraint_whole called Writer true m a rest (inl w) (inl h) q = rw (h, w, q.question, q.bang) refl
constraint_whole called Writer true m a rest (inl w) (inr h) q = rw (h, w, q.question, q.bang) refl
constraint_whole called Writer true m a rest (inr w) (inl h) q = rw (h, w) refl
constraint_whole called Writer true m a rest (inr w) (inr h) q = rw (h, w) refl

gets_constraint : Gets constraint_at IsConstraint Comma Quiet
gets_constraint = record {
  whole = λ c a rest h q. constraint_whole c.name c.mode c.session h.0 a rest h.1 h.2 q;
  goes_on = λ rest. record { question = refl; bang = refl; paren = refl };
}

-- ---- declarations

params_whole : (params : List Param) (s rest : List Symbol) → AreParams params s → params_at (s ++ rest) ≡ got params rest
params_whole params s rest (a, is, ps) =
    let list = maybe_whole param_at IsParam Comma Anything refl gets_param (λ p a rest is. rw is refl) params a (mark CloseParen ∷ rest) ps tt refl refl in
    rw (is, append_assoc a (mark CloseParen ∷ []) rest, list) refl

cases_whole : (patterns : Option (List (Option Word))) (s rest : List Symbol) → ArePatterns patterns s → begins Colon rest ≡ false → cases_at (s ++ rest) ≡ got patterns rest
cases_whole None s rest none other = rw (none, other) refl
cases_whole (Some patterns) s rest (a, is, ps) other =
    let list = listed_whole pattern_at IsPattern Comma Anything refl gets_pattern patterns a (mark CloseBracket ∷ rest) ps tt refl in
    rw (is, append_assoc a (mark CloseBracket ∷ []) rest, list) refl

signature_whole : (called : Word) (ins outs : List Param) (s rest : List Symbol) → IsDeclaration (decl.Signature called ins outs) s → declaration_at (s ++ rest) ≡ got (decl.Signature called ins outs) rest
signature_whole called ins outs s rest (a, b, is, ps, qs) =
    let opens : begins OpenParen (a ++ mark Arrow ∷ (b ++ mark Semicolon ∷ rest)) ≡ true = rw ps.1 refl in
    let first = params_whole ins a (mark Arrow ∷ (b ++ mark Semicolon ∷ rest)) ps in
    let second = params_whole outs b (mark Semicolon ∷ rest) qs in
    rw (is, append_assoc a (mark Arrow ∷ (b ++ mark Semicolon ∷ [])) rest, append_assoc b (mark Semicolon ∷ []) rest, first, opens, second) refl

codes_whole : (codes : List Word) (s rest : List Symbol) → AreCodes codes s → begins Colon rest ≡ false → codes_at (s ++ rest) ≡ got codes rest
codes_whole [] s rest none other = rw (none, other) refl
codes_whole (code ∷ codes) s rest (a, is, cs) other =
    let list = listed_whole number_at IsCode Comma Anything refl gets_code (code ∷ codes) a (mark CloseParen ∷ rest) cs tt refl in
    rw (is, append_assoc a (mark CloseParen ∷ []) rest, list) refl

flow_opens : (patterns : Option (List (Option Word))) (a rest : List Symbol) → ArePatterns patterns a → begins OpenParen (a ++ mark Equals ∷ rest) ≡ false
flow_opens None a rest is = rw is refl
flow_opens (Some patterns) a rest (b, is, ps) = rw is refl

flow_whole : (called : Word) (patterns : Option (List (Option Word))) (members : List Word) (s rest : List Symbol) → IsDeclaration (decl.Flow called patterns members) s → declaration_at (s ++ rest) ≡ got (decl.Flow called patterns members) rest
flow_whole called patterns members s rest (a, b, is, ps, qs) =
    let opens = flow_opens patterns a (b ++ mark Semicolon ∷ rest) ps in
    let first = cases_whole patterns a (mark Equals ∷ (b ++ mark Semicolon ∷ rest)) ps refl in
    let second = maybe_whole name_at IsMember ThinArrow Anything refl gets_member (λ p a rest is. rw is refl) members b (mark Semicolon ∷ rest) qs tt refl refl in
    rw (is, append_assoc a (mark Equals ∷ (b ++ mark Semicolon ∷ [])) rest, append_assoc b (mark Semicolon ∷ []) rest, first, opens, second) refl

handler_whole : (node : Word) (codes : List Word) (handler : Word) (s rest : List Symbol) → IsDeclaration (decl.Handler node codes handler) s → declaration_at (s ++ rest) ≡ got (decl.Handler node codes handler) rest
handler_whole node codes handler s rest (a, is, cs) =
    let list = codes_whole codes a (mark Arrow ∷ name handler ∷ mark Semicolon ∷ rest) cs refl in
    rw (is, append_assoc a (mark Arrow ∷ name handler ∷ mark Semicolon ∷ []) rest, list) refl

atomic_whole : (node : Word) (constraints : List Constraint) (s rest : List Symbol) → IsDeclaration (decl.Atomic node constraints) s → declaration_at (s ++ rest) ≡ got (decl.Atomic node constraints) rest
atomic_whole node constraints s rest (a, is, cs) =
    let list = listed_whole constraint_at IsConstraint Comma Quiet refl gets_constraint constraints a (mark CloseBrace ∷ mark Semicolon ∷ rest) cs (record { question = refl; bang = refl; paren = refl }) refl in
    rw (is, append_assoc a (mark CloseBrace ∷ mark Semicolon ∷ []) rest, list) refl

-- a declaration that is spelled is read
pub declaration_whole : (d : Decl) (s rest : List Symbol) → IsDeclaration d s → declaration_at (s ++ rest) ≡ got d rest
declaration_whole (decl.Signature called ins outs) s rest h = signature_whole called ins outs s rest h
declaration_whole (decl.Flow called patterns members) s rest h = flow_whole called patterns members s rest h
declaration_whole (decl.Source called target) s rest h = rw h refl
declaration_whole (decl.Typedef called function) s rest h = rw h refl
declaration_whole (decl.Handler node codes handler) s rest h = handler_whole node codes handler s rest h
declaration_whole (decl.Atomic node constraints) s rest h = atomic_whole node constraints s rest h
declaration_whole (decl.Session source function) s rest h = rw h refl

-- a declaration has a symbol at least
pub some_symbol : (d : Decl) → IsDeclaration d [] → ⊥
some_symbol (decl.Signature called ins outs) (a, b, is, ps, qs) = absurd cc
some_symbol (decl.Flow called patterns members) (a, b, is, ps, qs) = absurd cc
some_symbol (decl.Source called target) h = absurd cc
some_symbol (decl.Typedef called function) h = absurd cc
some_symbol (decl.Handler node codes handler) (a, is, cs) = absurd cc
some_symbol (decl.Atomic node constraints) (a, is, cs) = absurd cc
some_symbol (decl.Session source function) h = absurd cc
