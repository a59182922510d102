-- The program of declarations, and where its names are. Nodes are numbered by the lines that name them first, and
-- each is made from all its lines.
use Rattle.std.specs.Prelude.{ℕ, ◌+◌, ◌*◌, ◌-◌, ◌==◌, Bool, true, false, if◌then◌else◌, fold, List, [], ◌∷◌, ◌++◌, map, Option, Some, None}
use Rattle.std.specs.List.{position_or_len, list_any, flat_map, filter_map, before_first, enumerate_from}
use Rattle.std.specs.Str.{bytes_eq}
use Rattle.std.specs.declared.cmp.Ordering.{Ordering}
use Rattle.std.specs.declared.cmp.Ordering.TheVariants.{Less, Equal, Greater}
use Rattle.flux_values.specs.declared.answers.Mode.{Mode}
use Rattle.flux_values.specs.declared.answers.Mode.TheVariants.{Reader, Writer}
use Rattle.flux_model.specs.declared.programs.Program.{Program}
use Rattle.flux_model.specs.declared.programs.Class.{Class}
use Rattle.flux_model.specs.declared.programs.Hold.{Hold}
use Rattle.flux_model.specs.declared.programs.Node.{Node}
use Rattle.flux_model.specs.declared.programs.NodeNo.{NodeNo}
use Rattle.flux_model.specs.declared.programs.HandleArm.{HandleArm}
use Rattle.flux_model.specs.declared.programs.Case.{Case}
use Rattle.flux_model.specs.declared.programs.Body.{Body}
use Rattle.flux_model.specs.declared.programs.Body.TheVariants.{Concrete, Abstract}
use Rattle.flux_model.specs.declared.programs.SourceLine.{SourceLine}
use Rattle.flux_model.specs.declared.named.Sites.{Sites}
use Rattle.flux_model.specs.declared.named.Named.{Named}
use Rattle.flux_model.specs.Modes.{class_cmp}
use Rattle.flux_syntax.specs.declared.declarations.Word.{Word}
use Rattle.flux_syntax.specs.declared.declarations.Constraint.{Constraint}
use Rattle.flux_syntax.specs.declared.declarations.Decl.{Decl}
use Rattle.flux_syntax.specs.declared.declarations.Decl.TheVariants.{Signature, Flow, Source, Typedef, Handler, Atomic, Session}
use Rattle.flux_syntax.specs.Words.{sourced, targeted, defined, function_of, names_of, first_words, texts_of}

-- ---- numbers of names

-- a name's number: its place among the names
abbrev pub place_of : List (List ℕ) → Word → ℕ
place_of names word = position_or_len (bytes_eq word.text) names

abbrev pub number_of : List (List ℕ) → Word → NodeNo
number_of names word = record { 0 = place_of names word }

-- the number that decimal digits spell
abbrev pub decimal_value : List ℕ → ℕ
decimal_value digits = fold (λ value digit. 10 * value + (digit - 48)) 0 digits

-- ---- bodies

-- the library's node of a signature: the part of its name before the first `_`, or the whole name
abbrev pub library_name : List ℕ → List ℕ
library_name name = before_first (λ b. b == 95) name

-- a pattern `_` has no number; any other is named by a `typedef` line, and has that line's place among these lines
abbrev pub pattern_of : List (List ℕ) → Option Word → Option ℕ
pattern_of types None = None
pattern_of types (Some word) = Some (place_of types word)

abbrev pub patterns_of : List (List ℕ) → Option (List (Option Word)) → List (Option ℕ)
patterns_of types None = []
patterns_of types (Some patterns) = map (pattern_of types) patterns

-- each flow line of a node is one of its cases
abbrev pub case_of : List (List ℕ) → List (List ℕ) → List ℕ → Decl → Option Case
case_of names types node (Flow name patterns members) =
    if bytes_eq name.text node
    then Some (record { patterns = patterns_of types patterns; members = map (number_of names) members })
    else None
case_of names types node other = None

-- a node with a signature line is concrete; any other is abstract, with its cases in order of the text
abbrev pub is_signed : List ℕ → Decl → Bool
is_signed node (Signature name ins outs) = bytes_eq name.text node
is_signed node other = false

abbrev pub body_of : List (List ℕ) → List (List ℕ) → List ℕ → List Decl → Body
body_of names types node decls =
    if list_any (is_signed node) decls
    then Concrete (library_name node)
    else Abstract (filter_map (case_of names types node) decls)

-- ---- handlers

-- each `handle` line of a node is one of its arms
abbrev pub arm_of : List (List ℕ) → List ℕ → Decl → Option HandleArm
arm_of names node (Handler name codes handler) =
    if bytes_eq name.text node
    then Some (record { codes = map (λ code. decimal_value code.text) codes; node = number_of names handler })
    else None
arm_of names node other = None

-- ---- constraints

abbrev pub class_of : Constraint → Class
class_of constraint = record { name = constraint.name.text; session = constraint.session }

-- the constraints of an `atomic` line
abbrev pub constraints_of : Decl → List Constraint
constraints_of (Atomic name constraints) = constraints
constraints_of other = []

-- those of the `atomic` lines of a node
abbrev pub constraints_on : List ℕ → Decl → List Constraint
constraints_on node (Atomic name constraints) = if bytes_eq name.text node then constraints else []
constraints_on node other = []

-- a class more, in canonical order; a class is there once
abbrev pub insert_by : Ordering → Class → Class → List Class → List Class → List Class
insert_by Less class other others inserted = class ∷ other ∷ others
insert_by Equal class other others inserted = other ∷ others
insert_by Greater class other others inserted = other ∷ inserted

abbrev pub insert_class : Class → List Class → List Class
insert_class class [] = class ∷ []
insert_class class (other ∷ others) =
    insert_by (class_cmp class other) class other others (insert_class class others)

-- all classes of the text
abbrev pub classes_among : List Constraint → List Class
classes_among [] = []
classes_among (constraint ∷ constraints) = insert_class (class_of constraint) (classes_among constraints)

abbrev pub classes_of : List Decl → List Class
classes_of decls = classes_among (flat_map constraints_of decls)

-- whether a constraint is on a class
abbrev pub is_on : Class → Constraint → Bool
is_on class constraint = is_equal (class_cmp (class_of constraint) class)
  where
    is_equal : Ordering → Bool
    is_equal Less = false
    is_equal Equal = true
    is_equal Greater = false

-- of two modes the writer wins
abbrev pub joined : Mode → Option Mode → Option Mode
joined mode None = Some mode
joined Writer (Some other) = Some Writer
joined Reader (Some other) = Some other

-- the mode in which constraints are on a class, if one is
abbrev pub mode_on : Class → List Constraint → Option Mode
mode_on class [] = None
mode_on class (constraint ∷ constraints) =
    if is_on class constraint
    then joined constraint.mode (mode_on class constraints)
    else mode_on class constraints

abbrev pub hold_on : ℕ → Option Mode → Option Hold
hold_on class None = None
hold_on class (Some mode) = Some (record { class = record { 0 = class }; mode = mode })

-- a node's constraints, joined, in canonical order
abbrev pub declared_by : List Class → List ℕ → List Decl → List Hold
declared_by classes node decls =
    filter_map (λ numbered. hold_on numbered.0 (mode_on numbered.1 (flat_map (constraints_on node) decls)))
    (enumerate_from 0 classes)

-- ---- sources

-- the session function of a source: that of the first `session` line that names it
abbrev pub session_of : List ℕ → List Decl → Option (List ℕ)
session_of source [] = None
session_of source (Session name function ∷ decls) =
    if bytes_eq name.text source then Some function.text else session_of source decls
session_of source (decl ∷ decls) = session_of source decls

-- a source line starts flows at its target
abbrev pub source_of : List (List ℕ) → List Decl → Decl → Option SourceLine
source_of names decls (Source name target) = Some (record {
  node = number_of names name;
  target = number_of names target;
  session = session_of name.text decls;
})
source_of names decls other = None

-- ---- the program

abbrev pub node_of : List (List ℕ) → List (List ℕ) → List Class → List Decl → List ℕ → Node
node_of names types classes decls node = record {
  name = node;
  body = body_of names types node decls;
  on_fail = filter_map (arm_of names node) decls;
  declared = declared_by classes node decls;
}

-- nodes are numbered by their first naming lines, classes in canonical order, and predicates by their `typedef` lines;
-- source lines are in the order of the text
abbrev pub program_with : List (List ℕ) → List (List ℕ) → List Class → List Decl → Program
program_with names types classes decls = record {
  classes = classes;
  nodes = map (node_of names types classes decls) names;
  sources = filter_map (source_of names decls) decls;
  predicates = texts_of function_of decls;
}

abbrev pub program_of : List Decl → Program
program_of decls =
    program_with (names_of decls) (texts_of defined decls) (classes_of decls) decls

-- ---- places

abbrev pub places : List Word → List ℕ
places words = map (λ word. word.at) words

-- where the handlers of a node are
abbrev pub handler_place : List ℕ → Decl → Option ℕ
handler_place node (Handler name codes handler) =
    if bytes_eq name.text node then Some handler.at else None
handler_place node other = None

abbrev pub sites_of : List Decl → Sites
sites_of decls = record {
  nodes = places (first_words decls);
  targets = places (filter_map targeted decls);
  sources = places (filter_map sourced decls);
  handlers = flat_map (λ node. filter_map (handler_place node) decls) (names_of decls);
}

abbrev pub named_of : List Decl → Named
named_of decls = record { program = program_of decls; sites = sites_of decls }
