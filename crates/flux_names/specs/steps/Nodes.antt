-- Steps of the code: nodes made from their lines. No public clause cites it.
use Rattle.std.specs.Prelude.{ℕ, ◌+◌, Bool, true, false, if◌then◌else◌, List, [], ◌∷◌, ◌++◌, map, slice_set, slice_index_or, Option, Some, None}
use Rattle.std.specs.List.{list_any, filter, filter_map, flat_map, range_with_len}
use Rattle.std.specs.Str.{bytes_eq}
use Rattle.std.specs.Borrow.{Bor}
use Rattle.flux_values.specs.declared.answers.Mode.{Mode}
use Rattle.flux_model.specs.declared.programs.Class.{Class}
use Rattle.flux_model.specs.declared.programs.Node.{Node}
use Rattle.flux_model.specs.declared.programs.HandleArm.{HandleArm}
use Rattle.flux_model.specs.declared.programs.Case.{Case}
use Rattle.flux_model.specs.declared.programs.Body.{Body}
use Rattle.flux_model.specs.declared.programs.Body.TheVariants.{Concrete, Abstract}
use Rattle.flux_model.specs.declared.programs.SourceLine.{SourceLine}
use Rattle.flux_syntax.specs.declared.declarations.Word.{Word}
use Rattle.flux_syntax.specs.declared.declarations.Decl.{Decl}
use Rattle.flux_syntax.specs.declared.declarations.Decl.TheVariants.{Signature, Flow, Source, Typedef, Handler, Atomic, Session}
use Rattle.flux_syntax.specs.ProgramOfText.{place_of, number_of, patterns_of, library_name, constraints_of}
use Rattle.flux_names.specs.Rows.{code_of, used_names, not_among}
use Rattle.flux_names.specs.steps.Classes.{with_constraints, holds_of}

-- the lines after references
abbrev pub lines_now : List (Bor Decl) → List Decl
lines_now lines = map (λ line. line.now) lines

-- ---- lines of a node

-- the node that a line is about, if it is about one
abbrev pub subject : Decl → Option Word
subject (Signature name ins outs) = Some name
subject (Flow name patterns members) = Some name
subject (Handler node codes handler) = Some node
subject (Atomic node constraints) = Some node
subject (Session source function) = Some source
subject other = None

abbrev pub has_text : Option Word → List ℕ → Bool
has_text None name = false
has_text (Some word) name = bytes_eq word.text name

abbrev pub is_line_of : List ℕ → Decl → Bool
is_line_of name decl = has_text (subject decl) name

abbrev pub lines_of : List Decl → List ℕ → List Decl
lines_of decls name = filter (is_line_of name) decls

-- lists of lines by number, with one more of a node
abbrev pub with_line : List (List ℕ) → Decl → Option Word → List (List Decl) → List (List Decl)
with_line names line None lines = lines
with_line names line (Some word) lines =
    let number = place_of names word in
    slice_set lines number (slice_index_or lines number [] ++ line ∷ [])

-- ---- what each line gives

abbrev pub is_signature : Decl → Bool
is_signature (Signature name ins outs) = true
is_signature other = false

abbrev pub cases_in : List (List ℕ) → List (List ℕ) → Decl → List Case
cases_in names types (Flow name patterns members) =
    record { patterns = patterns_of types patterns; members = map (number_of names) members } ∷ []
cases_in names types other = []

abbrev pub arms_in : List (List ℕ) → Decl → List HandleArm
arms_in names (Handler node codes handler) =
    record {
      codes = filter_map (λ code. code_of code.text) codes;
      node = number_of names handler;
    } ∷ []
arms_in names other = []

abbrev pub session_in : List Decl → Option (List ℕ)
session_in [] = None
session_in (Session source function ∷ lines) = Some function.text
session_in (line ∷ lines) = session_in lines

abbrev pub handler_sites_in : Decl → List ℕ
handler_sites_in (Handler node codes handler) = handler.at ∷ []
handler_sites_in other = []

-- ---- nodes

abbrev pub body_in : List (List ℕ) → List (List ℕ) → List ℕ → List Decl → Body
body_in names types name lines =
    if list_any is_signature lines
    then Concrete (library_name name)
    else Abstract (flat_map (cases_in names types) lines)

abbrev pub no_modes : List Class → List (Option Mode)
no_modes classes = map (λ class. None) classes

abbrev pub node_in : List (List ℕ) → List (List ℕ) → List Class → List ℕ → List Decl → Node
node_in names types classes name lines = record {
  name = name;
  body = body_in names types name lines;
  on_fail = flat_map (arms_in names) lines;
  declared = holds_of (with_constraints (flat_map constraints_of lines) classes (no_modes classes));
}

-- ---- sources and predicates

-- the names that aren't among those of nodes
abbrev pub unknown_in : List (List ℕ) → List Decl → List Word
unknown_in names decls = flat_map (λ decl. not_among names (used_names decl)) decls

abbrev pub sources_in : List (List ℕ) → List (List Decl) → Decl → List SourceLine
sources_in names lines (Source name target) = record {
  node = number_of names name;
  target = number_of names target;
  session = session_in (slice_index_or lines (place_of names name) []);
} ∷ []
sources_in names lines other = []

abbrev pub predicates_in : Decl → List (List ℕ)
predicates_in (Typedef name function) = function.text ∷ []
predicates_in other = []

-- ---- all nodes

-- the nodes of words, with the lines of the numbers from one on
abbrev pub nodes_from : List (List ℕ) → List (List ℕ) → List Class → List (List Decl) → ℕ
    → List Word → List Node
nodes_from names types classes lines number [] = []
nodes_from names types classes lines number (word ∷ words) =
    node_in names types classes word.text (slice_index_or lines number [])
    ∷ nodes_from names types classes lines (number + 1) words

-- the handlers' places in the lines of the first so many numbers
abbrev pub handler_sites_from : List (List Decl) → ℕ → List ℕ
handler_sites_from lines count =
    flat_map (λ number. flat_map handler_sites_in (slice_index_or lines number []))
    (range_with_len 0 count)
