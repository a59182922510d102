-- Steps of the code: reading symbols from left to right, as the parser does. No public clause
-- cites it.
use Rattle.std.specs.Prelude.{◌≡◌, ⊤, ℕ, zero, suc, Bool, true, false, if◌then◌else◌, List, [], ◌∷◌, ◌++◌, length, Option, Some, None, Result, Ok, Err}
use Rattle.flux_lexer.specs.declared.kinds.Token.{Token}
use Rattle.flux_lexer.specs.declared.kinds.TokenKind.{TokenKind}
use Rattle.flux_lexer.specs.declared.kinds.TokenKind.TheVariants.{Identifier, Number, Source, Typedef, Handle, Error, Atomic, Session, Wildcard, OpenParen, CloseParen, OpenBracket, CloseBracket, OpenBrace, CloseBrace, Comma, Semicolon, Colon, Equals, Star, Question, Bang, ThinArrow, Arrow}
use Rattle.flux_values.specs.declared.answers.Mode.{Mode}
use Rattle.flux_values.specs.declared.answers.Mode.TheVariants.{Reader, Writer}
use Rattle.flux_syntax.specs.declared.declarations.Word.{Word}
use Rattle.flux_syntax.specs.declared.declarations.Param.{Param}
use Rattle.flux_syntax.specs.declared.declarations.Constraint.{Constraint}
use Rattle.flux_syntax.specs.declared.declarations.Decl.{Decl}
use Rattle.flux_syntax.specs.declared.declarations.Decl.TheVariants as decl
use Rattle.flux_syntax.specs.declared.cursors.Stop.{Stop}
use Rattle.flux_syntax.specs.declared.cursors.Stop.TheVariants.{Unexpected, Memory}
use Rattle.flux_syntax.specs.Symbols.{Symbol, name, digits, mark, is, has_word}

-- what is read, with the symbols that are left; or the symbols from the one on that doesn't fit
pub data Read (A : Type 0) : Type 0 where
  got : A → List Symbol → Read A
  stuck : List Symbol → Read A

infixl 10 ◌>>=◌
abbrev pub ◌>>=◌ : {A B : Type 0} → Read A → (A → List Symbol → Read B) → Read B
got x rest >>= f = f x rest
stuck rest >>= f = stuck rest

-- what a reader answers, and what is left after it, are what is read; or memory was short
abbrev pub Reads : {A : Type 0} → Result A Stop → List Symbol → Read A → Type 0
Reads (Ok x) left read = read ≡ got x left
Reads (Err Unexpected) left read = read ≡ stuck left
Reads (Err Memory) left read = ⊤

-- the same of a reader that adds to what is at hand
abbrev pub ReadsOnto : {A : Type 0} → Result (Unit {0}) Stop → A → List Symbol → Read A → Type 0
ReadsOnto (Ok done) now left read = read ≡ got now left
ReadsOnto (Err Unexpected) now left read = read ≡ stuck left
ReadsOnto (Err Memory) now left read = ⊤

abbrev pub kind_at : List Symbol → Option TokenKind
kind_at [] = None
kind_at (name word ∷ rest) = Some Identifier
kind_at (digits word ∷ rest) = Some Number
kind_at (mark kind ∷ rest) = Some kind

-- whether a symbol is of a kind; names and numbers are no marks
abbrev pub of_kind : TokenKind → Symbol → Bool
of_kind kind (name word) = is kind Identifier
of_kind kind (digits word) = is kind Number
of_kind kind (mark other) = if has_word other then false else is kind other

-- whether the next symbol is of a kind
abbrev pub begins : TokenKind → List Symbol → Bool
begins kind [] = false
begins kind (symbol ∷ rest) = of_kind kind symbol

-- what follows the next symbol
abbrev pub behind : List Symbol → List Symbol
behind [] = []
behind (symbol ∷ rest) = rest

abbrev pub mark_at : TokenKind → List Symbol → Read (Unit {0})
mark_at kind symbols = if begins kind symbols then got tt (behind symbols) else stuck symbols

abbrev pub name_at : List Symbol → Read Word
name_at [] = stuck []
name_at (name word ∷ rest) = got word rest
name_at (digits word ∷ rest) = stuck (digits word ∷ rest)
name_at (mark kind ∷ rest) = stuck (mark kind ∷ rest)

abbrev pub number_at : List Symbol → Read Word
number_at [] = stuck []
number_at (name word ∷ rest) = stuck (name word ∷ rest)
number_at (digits word ∷ rest) = got word rest
number_at (mark kind ∷ rest) = stuck (mark kind ∷ rest)

-- ---- lists

-- one thing more, and what is left
abbrev pub onto : {A : Type 0} → (List Symbol → Read A) → List A → List Symbol → Read (List A)
onto read items symbols = read symbols >>= λ item rest. got (items ++ item ∷ []) rest

-- more things, as long as the mark is between them; at most so many
abbrev pub more_at : {A : Type 0} → (List Symbol → Read A) → TokenKind → ℕ → List A
    → List Symbol → Read (List A)
more_at read between zero items symbols = got items symbols
more_at read between (suc n) items symbols =
    if begins between symbols then
    (onto read items (behind symbols) >>= more_at read between n)
    else got items symbols

abbrev pub listed_at : {A : Type 0} → (List Symbol → Read A) → TokenKind → List Symbol
    → Read (List A)
listed_at read between symbols =
    onto read [] symbols >>= λ items rest. more_at read between (length rest) items rest

-- ---- what lists are made of

abbrev pub stars_at : List Symbol → Read ℕ
stars_at [] = got 0 []
stars_at (symbol ∷ rest) =
    if of_kind Star symbol then (stars_at rest >>= λ stars left. got (suc stars) left)
    else got 0 (symbol ∷ rest)

abbrev pub param_at : List Symbol → Read Param
param_at symbols =
    name_at symbols >>= λ ty rest. stars_at rest >>= λ stars rest. name_at rest >>= λ called rest.
    got (record { ty = ty; stars = stars; name = called }) rest

abbrev pub pattern_at : List Symbol → Read (Option Word)
pattern_at symbols =
    if begins Wildcard symbols then (mark_at Wildcard symbols >>= λ _ rest. got None rest)
    else (name_at symbols >>= λ word rest. got (Some word) rest)

-- the mark of a mode, if one is next
abbrev pub mode_at : List Symbol → Read (Option Mode)
mode_at symbols =
    if begins Question symbols then
    (mark_at Question symbols >>= λ _ rest. got (Some Reader) rest)
    else if begins Bang symbols then
    (mark_at Bang symbols >>= λ _ rest. got (Some Writer) rest)
    else got None symbols

-- whether a scope is next
abbrev pub scope_at : List Symbol → Read Bool
scope_at symbols =
    if begins OpenParen symbols then
    (mark_at OpenParen symbols >>= λ _ rest. mark_at Session rest >>= λ _ rest.
    mark_at CloseParen rest >>= λ _ rest. got true rest)
    else got false symbols

abbrev pub or_writer : Option Mode → Mode
or_writer (Some mode) = mode
or_writer None = Writer

abbrev pub mark_after : Bool → List Symbol → Read (Option Mode)
mark_after session symbols = if session then mode_at symbols else got None symbols

-- what follows the name and perhaps the mark of a constraint: a scope, and then perhaps a mark if
-- none stood before it
abbrev pub held_at : Word → Option Mode → List Symbol → Read Constraint
held_at called (Some mode) symbols =
    scope_at symbols >>= λ session rest.
    got (record { name = called; mode = mode; session = session }) rest
held_at called None symbols =
    scope_at symbols >>= λ session rest. mark_after session rest >>= λ after rest.
    got (record { name = called; mode = or_writer after; session = session }) rest

abbrev pub constraint_at : List Symbol → Read Constraint
constraint_at symbols =
    name_at symbols >>= λ called rest. mode_at rest >>= λ mode rest. held_at called mode rest

-- ---- declarations

abbrev pub maybe_at : {A : Type 0} → (List Symbol → Read A) → TokenKind → List Symbol
    → Read (List A)
maybe_at read between symbols =
    if begins Identifier symbols then listed_at read between symbols else got [] symbols

abbrev pub params_at : List Symbol → Read (List Param)
params_at symbols =
    mark_at OpenParen symbols >>= λ _ rest. maybe_at param_at Comma rest >>= λ params left.
    mark_at CloseParen left >>= λ _ end. got params end

abbrev pub signature_at : Word → List Symbol → Read Decl
signature_at called symbols =
    params_at symbols >>= λ ins rest. mark_at Arrow rest >>= λ _ rest.
    params_at rest >>= λ outs rest. mark_at Semicolon rest >>= λ _ rest.
    got (decl.Signature called ins outs) rest

abbrev pub cases_at : List Symbol → Read (Option (List (Option Word)))
cases_at symbols =
    if begins Colon symbols then
    (mark_at Colon symbols >>= λ _ rest. mark_at OpenBracket rest >>= λ _ rest.
    listed_at pattern_at Comma rest >>= λ patterns rest.
    mark_at CloseBracket rest >>= λ _ rest. got (Some patterns) rest)
    else got None symbols

abbrev pub members_at : List Symbol → Read (List Word)
members_at symbols = maybe_at name_at ThinArrow symbols

abbrev pub flow_at : Word → List Symbol → Read Decl
flow_at called symbols =
    cases_at symbols >>= λ patterns rest. mark_at Equals rest >>= λ _ rest.
    members_at rest >>= λ members rest. mark_at Semicolon rest >>= λ _ rest.
    got (decl.Flow called patterns members) rest

abbrev pub named_at : List Symbol → Read Decl
named_at symbols =
    name_at symbols >>= λ called rest.
    if begins OpenParen rest then signature_at called rest else flow_at called rest

abbrev pub source_at : List Symbol → Read Decl
source_at symbols =
    mark_at Source symbols >>= λ _ rest. name_at rest >>= λ called rest.
    mark_at Arrow rest >>= λ _ rest. name_at rest >>= λ target rest.
    mark_at Semicolon rest >>= λ _ rest. got (decl.Source called target) rest

abbrev pub typedef_at : List Symbol → Read Decl
typedef_at symbols =
    mark_at Typedef symbols >>= λ _ rest. name_at rest >>= λ called rest.
    name_at rest >>= λ function rest. mark_at Semicolon rest >>= λ _ rest.
    got (decl.Typedef called function) rest

abbrev pub codes_at : List Symbol → Read (List Word)
codes_at symbols =
    if begins Colon symbols then
    (mark_at Colon symbols >>= λ _ rest. mark_at OpenParen rest >>= λ _ rest.
    listed_at number_at Comma rest >>= λ codes rest.
    mark_at CloseParen rest >>= λ _ rest. got codes rest)
    else got [] symbols

abbrev pub handler_at : List Symbol → Read Decl
handler_at symbols =
    mark_at Handle symbols >>= λ _ rest. mark_at Error rest >>= λ _ rest.
    name_at rest >>= λ node rest. codes_at rest >>= λ codes rest. mark_at Arrow rest >>= λ _ rest.
    name_at rest >>= λ handler rest. mark_at Semicolon rest >>= λ _ rest.
    got (decl.Handler node codes handler) rest

abbrev pub atomic_at : List Symbol → Read Decl
atomic_at symbols =
    mark_at Atomic symbols >>= λ _ rest. name_at rest >>= λ node rest.
    mark_at Colon rest >>= λ _ rest. mark_at OpenBrace rest >>= λ _ rest.
    listed_at constraint_at Comma rest >>= λ constraints rest.
    mark_at CloseBrace rest >>= λ _ rest.
    mark_at Semicolon rest >>= λ _ rest. got (decl.Atomic node constraints) rest

abbrev pub session_at : List Symbol → Read Decl
session_at symbols =
    mark_at Session symbols >>= λ _ rest. name_at rest >>= λ source rest.
    mark_at Arrow rest >>= λ _ rest. name_at rest >>= λ function rest.
    mark_at Semicolon rest >>= λ _ rest. got (decl.Session source function) rest

-- the first token tells the form
abbrev pub declared_at : Option TokenKind → List Symbol → Read Decl
declared_at (Some Identifier) symbols = named_at symbols
declared_at (Some Source) symbols = source_at symbols
declared_at (Some Typedef) symbols = typedef_at symbols
declared_at (Some Handle) symbols = handler_at symbols
declared_at (Some Atomic) symbols = atomic_at symbols
declared_at (Some Session) symbols = session_at symbols
declared_at other symbols = stuck symbols

abbrev pub declaration_at : List Symbol → Read Decl
declaration_at symbols = declared_at (kind_at symbols) symbols

-- declarations up to the end; at most so many
abbrev pub all_at : ℕ → List Decl → List Symbol → Read (List Decl)
all_at n decls [] = got decls []
all_at zero decls (symbol ∷ rest) = stuck (symbol ∷ rest)
all_at (suc n) decls (symbol ∷ rest) =
    declaration_at (symbol ∷ rest) >>= λ decl rest. all_at n (decls ++ decl ∷ []) rest

abbrev pub program_at : List Symbol → Read (List Decl)
program_at symbols = all_at (length symbols) [] symbols

-- the place of the first token, or the end
abbrev pub place_at : ℕ → List Token → ℕ
place_at end [] = end
place_at end (token ∷ rest) = token.start
