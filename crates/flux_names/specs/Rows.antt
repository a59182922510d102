-- The faults of names, 5 to 14 and 28: for each its row, the words at which it applies.
use Rattle.std.specs.Prelude.{ℕ, ◌==◌, nat_le, ◌&&◌, ◌||◌, not, map, Bool, true, false, if◌then◌else◌, List, [], ◌∷◌, ◌++◌, drop, Option, Some, None}
use Rattle.std.specs.List.{list_any, list_all, filter, filter_map, flat_map}
use Rattle.std.specs.Option.{is_none}
use Rattle.std.specs.Str.{bytes_eq}
use Rattle.flux_values.specs.declared.values.Kind.{Kind}
use Rattle.flux_values.specs.declared.values.Kind.TheVariants as kinds
use Rattle.flux_values.specs.declared.meanings.Sig.{Sig}
use Rattle.flux_values.specs.declared.meanings.Role.{Role}
use Rattle.flux_values.specs.declared.meanings.Role.TheVariants as roles
use Rattle.flux_values.specs.Identifiers.{is_digit}
use Rattle.flux_values.specs.Meanings.{LibraryMeaning}
use Rattle.flux_faults.specs.declared.faults.FaultKind.TheVariants.{TwiceNamed, UnknownNode, UnknownType, NotInLibrary, UnlikeLibrary, UnknownPredicate, UnknownSession, NotASource, SourceMisused, TooMany, BadCode}
use Rattle.flux_syntax.specs.declared.declarations.Word.{Word}
use Rattle.flux_syntax.specs.declared.declarations.Param.{Param}
use Rattle.flux_syntax.specs.declared.declarations.Constraint.{Constraint}
use Rattle.flux_syntax.specs.declared.declarations.Decl.{Decl}
use Rattle.flux_syntax.specs.declared.declarations.Decl.TheVariants.{Signature, Flow, Source, Typedef, Handler, Atomic, Session}
use Rattle.flux_syntax.specs.Words.{naming, sourced, defined, names_of, first_words, texts_of, known, listed, spelling}
use Rattle.flux_syntax.specs.ProgramOfText.{library_name, decimal_value, class_of, constraints_of, is_on}
use Rattle.flux_syntax.specs.Least.{Row}

-- ---- words of declarations

-- the node of a `handle` line without codes
abbrev pub handled : Decl → Option Word
handled (Handler node [] handler) = Some node
handled other = None

-- the source of a `session` line
abbrev pub sessioned : Decl → Option Word
sessioned (Session source function) = Some source
sessioned other = None

-- where no source may be: the target of a source line, the members of a flow, both names of a
-- `handle` line, and the node of an `atomic` line
abbrev pub inner_names : Decl → List Word
inner_names (Source name target) = target ∷ []
inner_names (Flow name patterns members) = members
inner_names (Handler node codes handler) = node ∷ handler ∷ []
inner_names (Atomic node constraints) = node ∷ []
inner_names other = []

-- every name of a node in a line that doesn't name a node itself, and a flow's members
abbrev pub used_names : Decl → List Word
used_names decl = listed (sourced decl) ++ (listed (sessioned decl) ++ inner_names decl)

-- ---- words that are or aren't among names

abbrev pub among : List (List ℕ) → List Word → List Word
among names words = filter (λ word. known names word.text) words

abbrev pub not_among : List (List ℕ) → List Word → List Word
not_among names words = filter (λ word. not (known names word.text)) words

abbrev pub word_if : Bool → Word → List Word
word_if wanted word = if wanted then word ∷ [] else []

abbrev pub listed_if : Bool → Option Word → List Word
listed_if wanted word = if wanted then listed word else []

-- ---- 5: a signature or flow has the name of an earlier signature or flow, unless both are flows
-- with pattern lists; or there is a second `typedef` of a name, `source` of a node, `handle` without
-- codes of a node, or `session` of a source

abbrev pub is_patterned : Decl → Bool
is_patterned (Flow name (Some patterns) members) = true
is_patterned other = false

abbrev pub have_one_name : Option Word → Option Word → Bool
have_one_name (Some name) (Some other) = bytes_eq name.text other.text
have_one_name name other = false

-- a line has the name of an earlier one of its sort, and they aren't both flows with pattern lists
abbrev pub repeats : (Decl → Option Word) → Decl → Decl → Bool
repeats sort decl earlier =
    have_one_name (sort decl) (sort earlier) && not (is_patterned decl && is_patterned earlier)

-- the names of the lines that repeat one before
abbrev pub repeated_after : (Decl → Option Word) → List Decl → List Decl → List Word
repeated_after sort before [] = []
repeated_after sort before (decl ∷ decls) =
    listed_if (list_any (repeats sort decl) before) (sort decl)
    ++ repeated_after sort (before ++ decl ∷ []) decls

abbrev pub repeated : List Decl → (Decl → Option Word) → List Word
repeated decls sort = repeated_after sort [] decls

abbrev pub twice_named : List Decl → List Word
twice_named decls =
    flat_map (repeated decls) (naming ∷ defined ∷ sourced ∷ handled ∷ sessioned ∷ [])

-- ---- 6: a name in a `source` line, a flow's members, a `handle` or an `atomic` line, or the source
-- of a `session` line has neither signature nor flow

abbrev pub unknown_nodes : List Decl → List Word
unknown_nodes decls = flat_map (λ decl. not_among (names_of decls) (used_names decl)) decls

-- ---- 7: the library has no kind for a parameter's type

abbrev pub unknown_type : LibraryMeaning → Param → List Word
unknown_type meaning param = word_if (is_none (meaning.kind (spelling param))) param.ty

abbrev pub unknown_types_in : LibraryMeaning → Decl → List Word
unknown_types_in meaning (Signature name ins outs) =
    flat_map (unknown_type meaning) ins ++ flat_map (unknown_type meaning) outs
unknown_types_in meaning other = []

abbrev pub unknown_types : LibraryMeaning → List Decl → List Word
unknown_types meaning decls = flat_map (unknown_types_in meaning) decls

-- ---- 8: a signature's library name isn't in the library

-- the library's node of a name
abbrev pub library_node : LibraryMeaning → List ℕ → Option Sig
library_node meaning name = meaning.node (library_name name)

abbrev pub not_in : LibraryMeaning → Decl → List Word
not_in meaning (Signature name ins outs) = word_if (is_none (library_node meaning name.text)) name
not_in meaning other = []

abbrev pub not_in_library : LibraryMeaning → List Decl → List Word
not_in_library meaning decls = flat_map (not_in meaning) decls

-- ---- 9: a signature's kinds differ in number or order from the library's

abbrev pub same_kind : Kind → Kind → Bool
same_kind kinds.Int kinds.Int = true
same_kind kinds.Bool kinds.Bool = true
same_kind kinds.Text kinds.Text = true
same_kind a b = false

-- the kind is this one
abbrev pub is_kind : Option Kind → Kind → Bool
is_kind None kind = false
is_kind (Some own) kind = same_kind own kind

-- parameters of these kinds, in number and order
abbrev pub have_kinds : LibraryMeaning → List Param → List Kind → Bool
have_kinds meaning [] [] = true
have_kinds meaning (param ∷ params) (kind ∷ kinds) =
    is_kind (meaning.kind (spelling param)) kind && have_kinds meaning params kinds
have_kinds meaning params kinds = false

-- parameters are like a library node, if there is one
abbrev pub are_like : LibraryMeaning → Option Sig → List Param → List Param → Bool
are_like meaning None ins outs = true
are_like meaning (Some node) ins outs =
    have_kinds meaning ins node.ins && have_kinds meaning outs node.outs

abbrev pub unlike : LibraryMeaning → Decl → List Word
unlike meaning (Signature name ins outs) =
    word_if (not (are_like meaning (library_node meaning name.text) ins outs)) name
unlike meaning other = []

abbrev pub unlike_library : LibraryMeaning → List Decl → List Word
unlike_library meaning decls = flat_map (unlike meaning) decls

-- ---- 10: a `typedef`'s function isn't in the library, or a pattern isn't a `typedef` name

-- the patterns of a flow that aren't `_`
abbrev pub pattern_words : Decl → List Word
pattern_words (Flow name (Some patterns) members) = filter_map (λ pattern. pattern) patterns
pattern_words other = []

abbrev pub unknown_function : LibraryMeaning → Decl → List Word
unknown_function meaning (Typedef name function) =
    word_if (is_none (meaning.predicate function.text)) function
unknown_function meaning other = []

abbrev pub unknown_predicates_in : LibraryMeaning → List (List ℕ) → Decl → List Word
unknown_predicates_in meaning types decl =
    unknown_function meaning decl ++ not_among types (pattern_words decl)

abbrev pub unknown_predicates : LibraryMeaning → List Decl → List Word
unknown_predicates meaning decls =
    flat_map (unknown_predicates_in meaning (texts_of defined decls)) decls

-- ---- 11: a session function isn't in the library

abbrev pub unknown_session : LibraryMeaning → Decl → List Word
unknown_session meaning (Session source function) =
    word_if (is_none (meaning.session function.text)) function
unknown_session meaning other = []

abbrev pub unknown_sessions : LibraryMeaning → List Decl → List Word
unknown_sessions meaning decls = flat_map (unknown_session meaning) decls

-- ---- 12: the node of `source` isn't a concrete node with a source role, or `session` names a node
-- without a `source` line

abbrev pub is_source_role : Role → Bool
is_source_role roles.Plain = false
is_source_role roles.Source = true
is_source_role roles.HeadSource = true
is_source_role roles.LineSource = true

abbrev pub is_source : Option Sig → Bool
is_source None = false
is_source (Some node) = is_source_role node.role

-- the name of a signature whose library node has a source role
abbrev pub source_node : LibraryMeaning → Decl → Option Word
source_node meaning (Signature name ins outs) =
    if is_source (library_node meaning name.text) then Some name else None
source_node meaning other = None

-- the names of the concrete nodes with a source role
abbrev pub source_nodes : LibraryMeaning → List Decl → List (List ℕ)
source_nodes meaning decls = texts_of (source_node meaning) decls

abbrev pub not_sources_in : List (List ℕ) → List (List ℕ) → Decl → List Word
not_sources_in sources lines decl =
    not_among sources (listed (sourced decl)) ++ not_among lines (listed (sessioned decl))

abbrev pub not_sources : LibraryMeaning → List Decl → List Word
not_sources meaning decls =
    flat_map (not_sources_in (source_nodes meaning decls) (texts_of sourced decls)) decls

-- ---- 13: a concrete node with a source role is a member, a target, a name in `handle`, or has
-- `atomic`

abbrev pub misused_sources : LibraryMeaning → List Decl → List Word
misused_sources meaning decls =
    flat_map (λ decl. among (source_nodes meaning decls) (inner_names decl)) decls

-- ---- 14: there are more than 4,096 nodes or 256 classes

abbrev pub node_limit : ℕ
node_limit = 4096

abbrev pub class_limit : ℕ
class_limit = 256

-- the words of the constraints whose class no constraint before has
abbrev pub class_words_after : List Constraint → List Constraint → List Word
class_words_after before [] = []
class_words_after before (constraint ∷ constraints) =
    word_if (not (list_any (is_on (class_of constraint)) before)) constraint.name
    ++ class_words_after (before ++ constraint ∷ []) constraints

abbrev pub class_words : List Decl → List Word
class_words decls = class_words_after [] (flat_map constraints_of decls)

-- the words that name a new node beyond the 4,096th, and those of new classes beyond the 256th
abbrev pub too_many : List Decl → List Word
too_many decls = drop node_limit (first_words decls) ++ drop class_limit (class_words decls)

-- ---- 28: a number in a `handle` line isn't 1 to 256 in decimal without leading zeros, or stood
-- before it in a `handle` line of the same node

abbrev pub begins_with_zero : List ℕ → Bool
begins_with_zero [] = false
begins_with_zero (digit ∷ digits) = digit == 48

-- from 1 to 256 in decimal without leading zeros
abbrev pub is_code : List ℕ → Bool
is_code digits = list_all is_digit digits && not (begins_with_zero digits)
    && nat_le 1 (decimal_value digits) && nat_le (decimal_value digits) 256

-- the code that digits spell, if they spell one
abbrev pub code_of : List ℕ → Option ℕ
code_of digits = if is_code digits then Some (decimal_value digits) else None

-- a number of a `handle` line, and the line's node
pub record CodeOn : Type 0 where
  pub node : Word
  pub number : Word

abbrev pub codes_in : Decl → List CodeOn
codes_in (Handler node codes handler) = map (λ code. record { node = node; number = code }) codes
codes_in other = []

-- whether two numbers are one code of one node
abbrev pub is_same_code : Option ℕ → Option ℕ → Bool
is_same_code (Some code) (Some other) = code == other
is_same_code code other = false

abbrev pub is_taken_by : CodeOn → CodeOn → Bool
is_taken_by code before =
    bytes_eq code.node.text before.node.text
    && is_same_code (code_of code.number.text) (code_of before.number.text)

abbrev pub is_bad_code : List CodeOn → CodeOn → Bool
is_bad_code before code = is_none (code_of code.number.text) || list_any (is_taken_by code) before

-- the numbers that are no code, or stood before
abbrev pub bad_codes_after : List CodeOn → List CodeOn → List Word
bad_codes_after before [] = []
bad_codes_after before (code ∷ codes) =
    word_if (is_bad_code before code) code.number ++ bad_codes_after (before ++ code ∷ []) codes

abbrev pub bad_codes : List Decl → List Word
bad_codes decls = bad_codes_after [] (flat_map codes_in decls)

-- ---- all rows, in the order in which they are looked for

abbrev pub rows : LibraryMeaning → List Decl → List Row
rows meaning decls =
    (TwiceNamed, twice_named decls)
    ∷ (UnknownNode, unknown_nodes decls)
    ∷ (UnknownType, unknown_types meaning decls)
    ∷ (NotInLibrary, not_in_library meaning decls)
    ∷ (UnlikeLibrary, unlike_library meaning decls)
    ∷ (UnknownPredicate, unknown_predicates meaning decls)
    ∷ (UnknownSession, unknown_sessions meaning decls)
    ∷ (NotASource, not_sources meaning decls)
    ∷ (SourceMisused, misused_sources meaning decls)
    ∷ (TooMany, too_many decls)
    ∷ (BadCode, bad_codes decls)
    ∷ []
