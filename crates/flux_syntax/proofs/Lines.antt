-- What the readers of the grammar's lines tell.
use Rattle.std.proofs.Common.{◌≡◌, Bool, true, false, if◌then◌else◌, List, [], ◌∷◌, ◌++◌, Option, Some, None, refl, sym, ap, subst, ◌∙◌, inl, inr}
use Rattle.std.proofs.lemmas.List.{append-nil}
use Rattle.flux_values.specs.declared.answers.Mode.{Mode}
use Rattle.flux_values.specs.declared.answers.Mode.TheVariants.{Reader, Writer}
use Rattle.flux_lexer.specs.declared.kinds.TokenKind.TheVariants.{Identifier, Number, Source, Typedef, Handle, Error, Atomic, Session, Wildcard, OpenParen, CloseParen, OpenBracket, CloseBracket, OpenBrace, CloseBrace, Comma, Semicolon, Colon, Equals, Star, Question, Bang, ThinArrow, Arrow}
use Rattle.flux_syntax.specs.declared.declarations.Word.{Word}
use Rattle.flux_syntax.specs.declared.declarations.Constraint.{Constraint}
use Rattle.flux_syntax.specs.declared.declarations.Decl.{Decl}
use Rattle.flux_syntax.specs.declared.declarations.Decl.TheVariants as decl
use Rattle.flux_syntax.specs.Symbols.{Symbol, name, digits, mark}
use Rattle.flux_syntax.specs.Grammar.{Listed, IsCode, IsParam, AreParams, IsPattern, ArePatterns, AreMembers, AreCodes, scope, IsConstraint, IsDeclaration}
use Rattle.flux_syntax.specs.steps.Reading.{Read, stuck, begins, param_at, pattern_at, mode_at, scope_at, or_writer, mark_after, held_at, constraint_at, params_at, cases_at, members_at, signature_at, flow_at, named_at, source_at, typedef_at, codes_at, handler_at, atomic_at, session_at, declaration_at}
use Rattle.flux_syntax.proofs.Told.{Tells, tell_done, tell_mark, tell_name, tell_number, tell_then, tell_if, tell_as, tell_same, tell_stuck}
use Rattle.flux_syntax.proofs.Separated.{tell_listed, tell_maybe, tell_stars}

-- ---- what lists are made of

-- what the reader of parameters tells
pub tell_param : Tells param_at IsParam
tell_param = tell_as (tell_then tell_name λ ty. tell_then tell_stars λ stars. tell_then tell_name λ called. tell_done (record { ty = ty; stars = stars; name = called }))
    (λ p used (w, a, b, is, m, (n, a1, b1, is1, m1, (v, a2, b2, is2, m2, (e, none)))). rw (e, is, m, is1, m1, is2, m2, none) refl)

-- what the reader of patterns tells
pub tell_pattern : Tells pattern_at IsPattern
tell_pattern = tell_if Wildcard
    (tell_as (tell_then (tell_mark Wildcard refl) λ _. tell_done None) (λ p used (u, a, b, is, m, (e, none)). rw (e, is, m, none) refl))
    (tell_as (tell_then tell_name λ word. tell_done (Some word)) (λ p used (u, a, b, is, m, (e, none)). rw (e, is, m, none) refl))

-- a mark as it is, or none
abbrev IsWritten : Option Mode → List Symbol → Type 0
IsWritten (Some Reader) s = s ≡ mark Question ∷ []
IsWritten (Some Writer) s = s ≡ mark Bang ∷ []
IsWritten None s = s ≡ []

tell_mode : Tells mode_at IsWritten
tell_mode = tell_if Question
    (tell_as (tell_then (tell_mark Question refl) λ _. tell_done (Some Reader)) (λ p used (u, a, b, is, m, (e, none)). rw (e, is, m, none) refl))
    (tell_if Bang
    (tell_as (tell_then (tell_mark Bang refl) λ _. tell_done (Some Writer)) (λ p used (u, a, b, is, m, (e, none)). rw (e, is, m, none) refl))
    (tell_as (tell_done None) (λ p used (e, none). rw (e, none) refl)))

abbrev IsScope : Bool → List Symbol → Type 0
IsScope true s = s ≡ scope
IsScope false s = s ≡ []

tell_scope : Tells scope_at IsScope
tell_scope = tell_if OpenParen
    (tell_as (tell_then (tell_mark OpenParen refl) λ _. tell_then (tell_mark Session refl) λ _. tell_then (tell_mark CloseParen refl) λ _. tell_done true)
    (λ s used (u, a, b, is, m, (u1, a1, b1, is1, m1, (u2, a2, b2, is2, m2, (e, none)))). rw (e, is, m, is1, m1, is2, m2, none) refl))
    (tell_as (tell_done false) (λ s used (e, none). rw (e, none) refl))

-- a mark after a scope
abbrev IsAfter : Bool → Option Mode → List Symbol → Type 0
IsAfter true after s = IsWritten after s
IsAfter false after s = (after ≡ None) × (s ≡ [])

tell_after : (session : Bool) → Tells (mark_after session) (IsAfter session)
tell_after true = tell_mode
tell_after false = tell_as (tell_done None) (λ p used h. h)

-- what follows the name and the first mark
abbrev IsBehind : Word → Option Mode → Constraint → List Symbol → Type 0
IsBehind called (Some mode) c s = (session : Bool) × (c ≡ record { name = called; mode = mode; session = session }) × IsScope session s
IsBehind called None c s = (session : Bool) × (after : Option Mode) × (a b : List Symbol) × (c ≡ record { name = called; mode = or_writer after; session = session }) × (s ≡ a ++ b) × IsScope session a × IsAfter session after b

tell_held : (called : Word) (mode : Option Mode) → Tells (held_at called mode) (IsBehind called mode)
tell_held called (Some mode) = tell_as (tell_then tell_scope λ session. tell_done (record { name = called; mode = mode; session = session }))
    (λ c used (session, a, b, is, m, (e, none)). (session, e, subst (IsScope session) (sym (is ∙ ap (λ (l : List Symbol). a ++ l) none ∙ append-nil a)) m))
tell_held called None = tell_as (tell_then tell_scope λ session. tell_then (tell_after session) λ after. tell_done (record { name = called; mode = or_writer after; session = session }))
    (λ c used (session, a, b, is, m, (after, a1, b1, is1, m1, (e, none))). (session, after, a, a1, e, is ∙ ap (λ (l : List Symbol). a ++ l) (is1 ∙ ap (λ (l : List Symbol). a1 ++ l) none ∙ append-nil a1), m, m1))

held : (called : Word) (mode : Option Mode) (c : Constraint) (m s : List Symbol) → IsWritten mode m → IsBehind called mode c s → IsConstraint c (name called ∷ (m ++ s))
held called (Some Reader) c m s w (true, e, sc) = rw (e, w, sc) (mark Question ∷ [], refl, inl refl)
held called (Some Reader) c m s w (false, e, sc) = rw (e, w, sc) (mark Question ∷ [], refl, refl)
held called (Some Writer) c m s w (true, e, sc) = rw (e, w, sc) (mark Bang ∷ [], inr refl, inl refl)
held called (Some Writer) c m s w (false, e, sc) = rw (e, w, sc) (mark Bang ∷ [], inr refl, refl)
held called None c m s w (true, Some Reader, a, b, e, is, sc, af) = rw (e, w, is, sc, af) (mark Question ∷ [], refl, inr refl)
held called None c m s w (true, Some Writer, a, b, e, is, sc, af) = rw (e, w, is, sc, af) (mark Bang ∷ [], inr refl, inr refl)
held called None c m s w (true, None, a, b, e, is, sc, af) = rw (e, w, is, sc, af) ([], inl refl, inl refl)
held called None c m s w (false, after, a, b, e, is, sc, (none, nil)) = rw (e, w, is, sc, none, nil) ([], inl refl, refl)

-- what the reader of constraints tells
pub tell_constraint : Tells constraint_at IsConstraint
tell_constraint = tell_as (tell_then tell_name λ called. tell_then tell_mode λ mode. tell_held called mode)
    (λ c used (called, a, b, is, m, (mode, a1, b1, is1, m1, h)). let all : used ≡ name called ∷ (a1 ++ b1) = rw (is, m, is1) refl in subst (IsConstraint c) (sym all) (held called mode c a1 b1 m1 h))

-- ---- declarations

tell_params : Tells params_at AreParams
tell_params = tell_as (tell_then (tell_mark OpenParen refl) λ _. tell_then (tell_maybe refl tell_param) λ params. tell_then (tell_mark CloseParen refl) λ _. tell_done params)
    (λ ps used (u, a, b, is, m, (params, a1, b1, is1, m1, (u2, a2, b2, is2, m2, (e, none)))). rw e (a1, rw (is, m, is1, is2, m2, none) refl, m1))

tell_cases : Tells cases_at ArePatterns
tell_cases = tell_if Colon
    (tell_as (tell_then (tell_mark Colon refl) λ _. tell_then (tell_mark OpenBracket refl) λ _. tell_then (tell_listed refl tell_pattern) λ patterns. tell_then (tell_mark CloseBracket refl) λ _. tell_done (Some patterns))
    (λ ps used (u, a, b, is, m, (u1, a1, b1, is1, m1, (patterns, a2, b2, is2, m2, (u3, a3, b3, is3, m3, (e, none))))). rw e (a2, rw (is, m, is1, m1, is2, is3, m3, none) refl, m2)))
    (tell_as (tell_done None) (λ ps used (e, none). rw (e, none) refl))

tell_members : Tells members_at AreMembers
tell_members = tell_maybe refl tell_name

tell_signature : (called : Word) → Tells (signature_at called) (λ d b. IsDeclaration d (name called ∷ b))
tell_signature called = tell_as (tell_then tell_params λ ins. tell_then (tell_mark Arrow refl) λ _. tell_then tell_params λ outs. tell_then (tell_mark Semicolon refl) λ _. tell_done (decl.Signature called ins outs))
    (λ d used (ins, a, b, is, m, (u1, a1, b1, is1, m1, (outs, a2, b2, is2, m2, (u3, a3, b3, is3, m3, (e, none))))). rw e (a, a2, rw (is, is1, m1, is2, is3, m3, none) refl, m, m2))

tell_flow : (called : Word) → Tells (flow_at called) (λ d b. IsDeclaration d (name called ∷ b))
tell_flow called = tell_as (tell_then tell_cases λ patterns. tell_then (tell_mark Equals refl) λ _. tell_then tell_members λ members. tell_then (tell_mark Semicolon refl) λ _. tell_done (decl.Flow called patterns members))
    (λ d used (patterns, a, b, is, m, (u1, a1, b1, is1, m1, (members, a2, b2, is2, m2, (u3, a3, b3, is3, m3, (e, none))))). rw e (a, a2, rw (is, is1, m1, is2, is3, m3, none) refl, m, m2))

tell_named : Tells named_at IsDeclaration
tell_named = tell_as (tell_then tell_name λ called. tell_if OpenParen (tell_signature called) (tell_flow called))
    (λ d used (called, a, b, is, m, h). let all : used ≡ name called ∷ b = rw (is, m) refl in subst (IsDeclaration d) (sym all) h)

tell_source : Tells source_at IsDeclaration
tell_source = tell_as (tell_then (tell_mark Source refl) λ _. tell_then tell_name λ called. tell_then (tell_mark Arrow refl) λ _. tell_then tell_name λ target. tell_then (tell_mark Semicolon refl) λ _. tell_done (decl.Source called target))
    (λ d used (u, a, b, is, m, (w, a1, b1, is1, m1, (u2, a2, b2, is2, m2, (w3, a3, b3, is3, m3, (u4, a4, b4, is4, m4, (e, none)))))). rw (e, is, m, is1, m1, is2, m2, is3, m3, is4, m4, none) refl)

tell_typedef : Tells typedef_at IsDeclaration
tell_typedef = tell_as (tell_then (tell_mark Typedef refl) λ _. tell_then tell_name λ called. tell_then tell_name λ function. tell_then (tell_mark Semicolon refl) λ _. tell_done (decl.Typedef called function))
    (λ d used (u, a, b, is, m, (w, a1, b1, is1, m1, (u2, a2, b2, is2, m2, (u3, a3, b3, is3, m3, (e, none))))). rw (e, is, m, is1, m1, is2, m2, is3, m3, none) refl)

tell_codes : Tells codes_at AreCodes
tell_codes = tell_if Colon
    (tell_as (tell_then (tell_mark Colon refl) λ _. tell_then (tell_mark OpenParen refl) λ _. tell_then (tell_listed refl tell_number) λ codes. tell_then (tell_mark CloseParen refl) λ _. tell_done codes)
    (λ cs used (u, a, b, is, m, (u1, a1, b1, is1, m1, (codes, a2, b2, is2, m2, (u3, a3, b3, is3, m3, (e, none))))). rw e (some codes a2 used m2 (rw (is, m, is1, m1, is2, is3, m3, none) refl))))
    (tell_as (tell_done []) (λ cs used (e, none). rw (e, none) refl))
  where
    some : (codes : List Word) (a used : List Symbol) → Listed IsCode Comma codes a → used ≡ mark Colon ∷ mark OpenParen ∷ (a ++ mark CloseParen ∷ []) → AreCodes codes used
    some [] a used none is = absurd none
    some (code ∷ codes) a used listed is = (a, is, listed)

tell_handler : Tells handler_at IsDeclaration
tell_handler = tell_as (tell_then (tell_mark Handle refl) λ _. tell_then (tell_mark Error refl) λ _. tell_then tell_name λ node. tell_then tell_codes λ codes. tell_then (tell_mark Arrow refl) λ _. tell_then tell_name λ handler. tell_then (tell_mark Semicolon refl) λ _. tell_done (decl.Handler node codes handler))
    (λ d used (u, a, b, is, m, (w, a1, b1, is1, m1, (u2, a2, b2, is2, m2, (codes, a6, b6, is6, m6, (w3, a3, b3, is3, m3, (u4, a4, b4, is4, m4, (u5, a5, b5, is5, m5, (e, none)))))))). rw e (a6, rw (is, m, is1, m1, is2, m2, is6, is3, m3, is4, m4, is5, m5, none) refl, m6))

tell_atomic : Tells atomic_at IsDeclaration
tell_atomic = tell_as (tell_then (tell_mark Atomic refl) λ _. tell_then tell_name λ node. tell_then (tell_mark Colon refl) λ _. tell_then (tell_mark OpenBrace refl) λ _. tell_then (tell_listed refl tell_constraint) λ constraints. tell_then (tell_mark CloseBrace refl) λ _. tell_then (tell_mark Semicolon refl) λ _. tell_done (decl.Atomic node constraints))
    (λ d used (u, a, b, is, m, (w, a1, b1, is1, m1, (u2, a2, b2, is2, m2, (w3, a3, b3, is3, m3, (u4, a4, b4, is4, m4, (u5, a5, b5, is5, m5, (u6, a6, b6, is6, m6, (e, none)))))))). rw e (a4, rw (is, m, is1, m1, is2, m2, is3, m3, is4, is5, m5, is6, m6, none) refl, m4))

tell_session : Tells session_at IsDeclaration
tell_session = tell_as (tell_then (tell_mark Session refl) λ _. tell_then tell_name λ source. tell_then (tell_mark Arrow refl) λ _. tell_then tell_name λ function. tell_then (tell_mark Semicolon refl) λ _. tell_done (decl.Session source function))
    (λ d used (u, a, b, is, m, (w, a1, b1, is1, m1, (u2, a2, b2, is2, m2, (w3, a3, b3, is3, m3, (u4, a4, b4, is4, m4, (e, none)))))). rw (e, is, m, is1, m1, is2, m2, is3, m3, is4, m4, none) refl)

-- the first symbol tells the form
abbrev chosen : List Symbol → Read Decl
chosen s =
    if begins Identifier s then named_at s else
    if begins Source s then source_at s else
    if begins Typedef s then typedef_at s else
    if begins Handle s then handler_at s else
    if begins Atomic s then atomic_at s else
    if begins Session s then session_at s else
    stuck s

is_chosen : (s : List Symbol) → declaration_at s ≡ chosen s
is_chosen [] = refl
is_chosen (name word ∷ rest) = refl
is_chosen (digits word ∷ rest) = refl
is_chosen (mark Identifier ∷ rest) = refl
is_chosen (mark Number ∷ rest) = refl
is_chosen (mark Source ∷ rest) = refl
is_chosen (mark Typedef ∷ rest) = refl
is_chosen (mark Handle ∷ rest) = refl
is_chosen (mark Error ∷ rest) = refl
is_chosen (mark Atomic ∷ rest) = refl
is_chosen (mark Session ∷ rest) = refl
is_chosen (mark Wildcard ∷ rest) = refl
is_chosen (mark OpenParen ∷ rest) = refl
is_chosen (mark CloseParen ∷ rest) = refl
is_chosen (mark OpenBracket ∷ rest) = refl
is_chosen (mark CloseBracket ∷ rest) = refl
is_chosen (mark OpenBrace ∷ rest) = refl
is_chosen (mark CloseBrace ∷ rest) = refl
is_chosen (mark Comma ∷ rest) = refl
is_chosen (mark Semicolon ∷ rest) = refl
is_chosen (mark Colon ∷ rest) = refl
is_chosen (mark Equals ∷ rest) = refl
is_chosen (mark Star ∷ rest) = refl
is_chosen (mark Question ∷ rest) = refl
is_chosen (mark Bang ∷ rest) = refl
is_chosen (mark ThinArrow ∷ rest) = refl
is_chosen (mark Arrow ∷ rest) = refl

-- what the reader of declarations tells
pub tell_declaration : Tells declaration_at IsDeclaration
tell_declaration = tell_same declaration_at is_chosen
    (tell_if Identifier tell_named (tell_if Source tell_source (tell_if Typedef tell_typedef (tell_if Handle tell_handler (tell_if Atomic tell_atomic (tell_if Session tell_session
    (tell_stuck tell_source.thing tell_source.spelled tell_source.some)))))))
