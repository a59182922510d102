-- The faults 24, 25 and 27: for each its row, the words at which it applies; and the rows that are looked for in programs
-- without a cycle.
use Rattle.std.specs.Prelude.{ℕ, ◌+◌, ◌&&◌, nat_lt, not, Bool, true, false, if◌then◌else◌, List, [], ◌∷◌, ◌++◌, map, Option, Some, None}
use Rattle.std.specs.Bool.{beq}
use Rattle.std.specs.List.{list_any, list_all, flat_map}
use Rattle.std.specs.Str.{bytes_eq}
use Rattle.flux_values.specs.declared.meanings.Sig.{Sig}
use Rattle.flux_values.specs.declared.meanings.CellUse.{CellUse}
use Rattle.flux_values.specs.Meanings.{LibraryMeaning}
use Rattle.flux_faults.specs.declared.faults.FaultKind.TheVariants.{BothScopes, Unprotected, PlanTooLarge}
use Rattle.flux_model.specs.Modes.{at_least}
use Rattle.flux_model.specs.Locks.{Holds}
use Rattle.flux_model.specs.Sizes.{size_of}
use Rattle.flux_syntax.specs.declared.declarations.Word.{Word}
use Rattle.flux_syntax.specs.declared.declarations.Constraint.{Constraint}
use Rattle.flux_syntax.specs.declared.declarations.Decl.{Decl}
use Rattle.flux_syntax.specs.declared.declarations.Decl.TheVariants.{Signature, Source, Atomic}
use Rattle.flux_syntax.specs.Words.{names_of}
use Rattle.flux_syntax.specs.ProgramOfText.{place_of, constraints_on}
use Rattle.flux_syntax.specs.Least.{Row}
use Rattle.flux_names.specs.Rows.{word_if, library_node}
use Rattle.flux_hoist.specs.Counted.{size_limit}
use Rattle.flux_types.specs.Signatures.{nodes_of, sig_of}
use Rattle.flux_types.specs.Rows.{sig_rows, source_rows}
use Rattle.flux_edges.specs.Rows.{handler_rows, session_rows}

-- ---- 24: a node has a name in both scopes

-- a constraint of an `atomic` line, and the line's node
pub record ConstraintOn : Type 0 where
  pub node : Word
  pub constraint : Constraint

abbrev pub constraints_in : Decl → List ConstraintOn
constraints_in (Atomic node constraints) =
    map (λ constraint. record { node = node; constraint = constraint }) constraints
constraints_in other = []

-- one on the same node, alike in name, in the other scope
abbrev pub is_other_scope : ConstraintOn → ConstraintOn → Bool
is_other_scope own other =
    let mine = own.constraint in let their = other.constraint in
    bytes_eq own.node.text other.node.text
    && bytes_eq mine.name.text their.name.text
    && not (beq mine.session their.session)

-- the names of the constraints whose other scope stood before
abbrev pub both_scopes_after : List ConstraintOn → List ConstraintOn → List Word
both_scopes_after before [] = []
both_scopes_after before (own ∷ others) =
    let mine = own.constraint in
    word_if (list_any (is_other_scope own) before) mine.name
    ++ both_scopes_after (before ++ own ∷ []) others

abbrev pub both_scopes : List Decl → List Word
both_scopes decls = both_scopes_after [] (flat_map constraints_in decls)

-- ---- 25: a signature's library node uses a cell, and the node has no constraint of that name in at
-- least that mode

abbrev pub protects : CellUse → Constraint → Bool
protects cell constraint =
    bytes_eq constraint.name.text cell.name && at_least constraint.mode cell.mode

-- each cell that a library node uses is protected by one of the constraints
abbrev pub are_protected : List Constraint → Option Sig → Bool
are_protected constraints None = true
are_protected constraints (Some node) =
    list_all (λ cell. list_any (protects cell) constraints) node.cells

abbrev pub unprotected_in : LibraryMeaning → List Decl → Decl → List Word
unprotected_in meaning decls (Signature name ins outs) =
    let constraints = flat_map (constraints_on name.text) decls in
    word_if (not (are_protected constraints (library_node meaning name.text))) name
unprotected_in meaning decls other = []

abbrev pub unprotected : LibraryMeaning → List Decl → List Word
unprotected meaning decls = flat_map (unprotected_in meaning decls) decls

abbrev pub constraint_rows : LibraryMeaning → List Decl → List Row
constraint_rows meaning decls =
    (BothScopes, both_scopes decls) ∷ (Unprotected, unprotected meaning decls) ∷ []

-- ---- 27: the sources' sizes up to and with this one sum to more than 65,536

-- the size of a flow that starts at a named node: its events and its end, by what nodes hold
abbrev pub flow_size : Holds → List Decl → Word → ℕ
flow_size locks decls target = size_of locks (nodes_of decls) (place_of (names_of decls) target) + 1

abbrev pub past_limit : ℕ → Word → List Word
past_limit total name = if nat_lt size_limit total then name ∷ [] else []

abbrev pub too_large_after : (Word → ℕ) → ℕ → List Decl → List Word
too_large_after size total [] = []
too_large_after size total (Source name target ∷ decls) =
    past_limit (total + size target) name ++ too_large_after size (total + size target) decls
too_large_after size total (other ∷ decls) = too_large_after size total decls

abbrev pub size_rows : Holds → List Decl → List Row
size_rows locks decls = (PlanTooLarge, too_large_after (flow_size locks decls) 0 decls) ∷ []

-- ---- all rows from 16 to 26, in their order

-- 24 to 26
abbrev pub last_rows : LibraryMeaning → List Decl → List Row
last_rows meaning decls = constraint_rows meaning decls ++ session_rows decls

-- 21 to 23, and these
abbrev pub edge_rows : LibraryMeaning → List Decl → List Row
edge_rows meaning decls =
    handler_rows (sig_of meaning.kind decls) decls
    ++ (source_rows meaning decls ++ last_rows meaning decls)

-- 16 to 20, and these
abbrev pub later_rows : LibraryMeaning → List Decl → List Row
later_rows meaning decls = sig_rows meaning decls ++ edge_rows meaning decls
