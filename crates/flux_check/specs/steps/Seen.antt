-- Steps of the code: constraints that were seen on nodes. No public clause cites it.
use Rattle.std.specs.Prelude.{ℕ, ◌&&◌, ◌||◌, not, Bool, true, false, if◌then◌else◌, List, [], ◌∷◌, ◌++◌, map, Option, Some, None}
use Rattle.std.specs.Bool.{beq}
use Rattle.std.specs.List.{list_any, list_all}
use Rattle.std.specs.Str.{bytes_eq}
use Rattle.flux_values.specs.declared.answers.Mode.{Mode}
use Rattle.flux_values.specs.declared.answers.Mode.TheVariants.{Reader, Writer}
use Rattle.flux_values.specs.declared.meanings.Sig.{Sig}
use Rattle.flux_values.specs.declared.meanings.CellUse.{CellUse}
use Rattle.flux_values.specs.Meanings.{LibraryMeaning}
use Rattle.flux_syntax.specs.declared.declarations.Word.{Word}
use Rattle.flux_syntax.specs.declared.declarations.Constraint.{Constraint}
use Rattle.flux_syntax.specs.declared.declarations.Decl.{Decl}
use Rattle.flux_syntax.specs.declared.declarations.Decl.TheVariants.{Signature}
use Rattle.flux_names.specs.Rows.{word_if, library_node}
use Rattle.flux_check.specs.Rows.{ConstraintOn}

-- names of nodes, each with the name of a constraint and a flag
abbrev pub Flags : Type 0
Flags = List (List ℕ × List ℕ × Bool)

abbrev pub has_flag : Flags → List ℕ → List ℕ → Bool → Bool
has_flag seen node name flag =
    list_any (λ other. bytes_eq node other.0 && bytes_eq name other.1 && beq flag other.2) seen

abbrev pub with_flag : Flags → List ℕ → List ℕ → Bool → Flags
with_flag seen node name flag =
    if has_flag seen node name flag then seen else seen ++ (node, name, flag) ∷ []

abbrev pub constraints_with : Word → List Constraint → List ConstraintOn
constraints_with node constraints =
    map (λ constraint. record { node = node; constraint = constraint }) constraints

-- ---- scopes: the flag says that the constraint is of a session

abbrev pub is_crossed : Flags → ConstraintOn → Bool
is_crossed seen own =
    let mine = own.constraint in has_flag seen own.node.text mine.name.text (not mine.session)

abbrev pub and_scope : Flags → ConstraintOn → Flags
and_scope seen own =
    let mine = own.constraint in with_flag seen own.node.text mine.name.text mine.session

abbrev pub and_scopes : Flags → List ConstraintOn → Flags
and_scopes seen [] = seen
and_scopes seen (own ∷ others) = and_scopes (and_scope seen own) others

abbrev pub crossed_by : Flags → List ConstraintOn → List Word
crossed_by seen [] = []
crossed_by seen (own ∷ others) =
    let mine = own.constraint in
    word_if (is_crossed seen own) mine.name ++ crossed_by (and_scope seen own) others

-- ---- modes: the flag says that the constraint is a writer's

abbrev pub is_writer : Mode → Bool
is_writer Writer = true
is_writer Reader = false

abbrev pub and_mode : Flags → ConstraintOn → Flags
and_mode seen own =
    let mine = own.constraint in
    with_flag seen own.node.text mine.name.text (is_writer mine.mode)

abbrev pub and_modes : Flags → List ConstraintOn → Flags
and_modes seen [] = seen
and_modes seen (own ∷ others) = and_modes (and_mode seen own) others

-- a node's use of a cell is protected
abbrev pub is_held : Flags → List ℕ → CellUse → Bool
is_held seen node cell = has_flag seen node cell.name true
    || (not (is_writer cell.mode) && has_flag seen node cell.name false)

abbrev pub are_held : Flags → List ℕ → Option Sig → Bool
are_held seen node None = true
are_held seen node (Some sig) = list_all (is_held seen node) sig.cells

abbrev pub unheld_in : LibraryMeaning → Flags → Decl → List Word
unheld_in meaning seen (Signature name ins outs) =
    word_if (not (are_held seen name.text (library_node meaning name.text))) name
unheld_in meaning seen other = []
