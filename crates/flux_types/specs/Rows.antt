-- The faults 16 to 20, 22 and 23: for each its row, the words at which it applies.
use Rattle.std.specs.Prelude.{ℕ, ◌==◌, ◌&&◌, Bool, true, false, if◌then◌else◌, List, [], ◌∷◌, ◌++◌, length, Option, Some, None, zip}
use Rattle.std.specs.List.{flat_map, list_all, filter}
use Rattle.std.specs.Str.{bytes_eq}
use Rattle.flux_values.specs.declared.values.Kind.{Kind}
use Rattle.flux_values.specs.declared.values.Kind.TheVariants as kinds
use Rattle.flux_values.specs.Meanings.{LibraryMeaning}
use Rattle.flux_model.specs.declared.programs.Body.{Body}
use Rattle.flux_model.specs.declared.programs.Body.TheVariants.{Concrete, Abstract}
use Rattle.flux_model.specs.declared.programs.NodeNo.{NodeNo}
use Rattle.flux_model.specs.declared.signatures.TypeText.{TypeText}
use Rattle.flux_model.specs.declared.signatures.NodeSig.{NodeSig}
use Rattle.flux_model.specs.Types.{same_types}
use Rattle.flux_faults.specs.declared.faults.FaultKind.TheVariants.{NoSignature, JoinTypes, CaseCount, CaseTypes, PredicateType, SourceTypes, SessionTypes}
use Rattle.flux_syntax.specs.declared.declarations.Word.{Word}
use Rattle.flux_syntax.specs.declared.declarations.Decl.{Decl}
use Rattle.flux_syntax.specs.declared.declarations.Decl.TheVariants.{Flow, Source, Typedef, Session}
use Rattle.flux_syntax.specs.Words.{names_of, first_words, texts_of, defined}
use Rattle.flux_syntax.specs.Least.{Row}
use Rattle.flux_syntax.specs.ProgramOfText.{place_of, body_of}
use Rattle.flux_types.specs.Signatures.{last_of, sig_of}

-- what the node that a word names takes and gives
abbrev pub WordSigs : Type 0
WordSigs = Word → NodeSig

abbrev pub word_sig : List (List ℕ) → (ℕ → NodeSig) → WordSigs
word_sig names sigs word = sigs (place_of names word)

abbrev pub sigs_of : LibraryMeaning → List Decl → WordSigs
sigs_of meaning decls = word_sig (names_of decls) (sig_of meaning.kind decls)

-- ---- comparing

abbrev pub same_kind : Kind → Kind → Bool
same_kind kinds.Int kinds.Int = true
same_kind kinds.Bool kinds.Bool = true
same_kind kinds.Text kinds.Text = true
same_kind a b = false

-- the types are of these kinds
abbrev pub have_kinds : List TypeText → List Kind → Bool
have_kinds [] [] = true
have_kinds (ty ∷ types) (kind ∷ kinds) = same_kind ty.kind kind && have_kinds types kinds
have_kinds types kinds = false

-- a word, where something doesn't hold
abbrev pub unless : Bool → Word → List Word
unless holds word = if holds then [] else word ∷ []

-- ---- rows on nodes

-- 16: all cases of an abstract node are empty
abbrev pub is_hollow : Body → Bool
is_hollow (Concrete name) = false
is_hollow (Abstract cases) = list_all (λ case. length case.members == 0) cases

abbrev pub hollow_node : List Decl → Word → List Word
hollow_node decls word =
    if is_hollow (body_of (names_of decls) (texts_of defined decls) word.text decls)
    then word ∷ []
    else []

abbrev pub no_signatures : List Decl → List Word
no_signatures decls = flat_map (hollow_node decls) (first_words decls)

-- ---- rows on flows

-- 17: the outputs of a member of a flow differ from the inputs of the next one
abbrev pub unjoined_after : WordSigs → Word → List Word → List Word
unjoined_after sigs from [] = []
unjoined_after sigs from (to ∷ words) =
    let before = sigs from in let after = sigs to in
    unless (same_types before.outs after.ins) to ++ unjoined_after sigs to words

abbrev pub unjoined : WordSigs → List Word → List Word
unjoined sigs [] = []
unjoined sigs (first ∷ words) = unjoined_after sigs first words

abbrev pub unjoined_in : WordSigs → Decl → List Word
unjoined_in sigs (Flow name patterns members) = unjoined sigs members
unjoined_in sigs other = []

-- 18: a pattern list has another length than the node's inputs
abbrev pub has_count : List TypeText → Option (List (Option Word)) → Bool
has_count ins None = true
has_count ins (Some patterns) = length patterns == length ins

abbrev pub miscounted_in : WordSigs → Decl → List Word
miscounted_in sigs (Flow name patterns members) =
    let own = sigs name in unless (has_count own.ins patterns) name
miscounted_in sigs other = []

-- 19: a case's first inputs or last outputs differ from the node's; or the case is empty, and the
-- node's inputs and outputs differ
abbrev pub is_like_node : WordSigs → NodeSig → List Word → Bool
is_like_node sigs own [] = same_types own.ins own.outs
is_like_node sigs own (first ∷ members) =
    let from = sigs first in let to = sigs (last_of first members) in
    same_types from.ins own.ins && same_types to.outs own.outs

abbrev pub unlike_node_in : WordSigs → Decl → List Word
unlike_node_in sigs (Flow name patterns members) =
    unless (is_like_node sigs (sigs name) members) name
unlike_node_in sigs other = []

-- the library's function after the name of a predicate: that of its `typedef` line
abbrev pub function_named : List ℕ → List Decl → Option (List ℕ)
function_named name [] = None
function_named name (Typedef own function ∷ decls) =
    if bytes_eq name own.text then Some function.text else function_named name decls
function_named name (decl ∷ decls) = function_named name decls

-- what the predicate of a name takes
abbrev pub Predicates : Type 0
Predicates = List ℕ → Option Kind

abbrev pub taken_by : LibraryMeaning → Option (List ℕ) → Option Kind
taken_by meaning None = None
taken_by meaning (Some function) = meaning.predicate function

abbrev pub predicates_of : LibraryMeaning → List Decl → Predicates
predicates_of meaning decls name = taken_by meaning (function_named name decls)

-- 20: a predicate's kind differs from that of the input in its place, looked for in the places that
-- both lists have
abbrev pub takes : Option Kind → Kind → Bool
takes None kind = false
takes (Some own) kind = same_kind own kind

abbrev pub unlike_input : Predicates → Option Word → TypeText → List Word
unlike_input predicates None input = []
unlike_input predicates (Some word) input = unless (takes (predicates word.text) input.kind) word

abbrev pub unlike_inputs : Predicates → List (Option Word) → List TypeText → List Word
unlike_inputs predicates (pattern ∷ patterns) (input ∷ inputs) =
    unlike_input predicates pattern input ++ unlike_inputs predicates patterns inputs
unlike_inputs predicates patterns inputs = []

abbrev pub unlike_patterns : Predicates → Option (List (Option Word)) → List TypeText → List Word
unlike_patterns predicates None inputs = []
unlike_patterns predicates (Some patterns) inputs = unlike_inputs predicates patterns inputs

abbrev pub unlike_predicates_in : WordSigs → Predicates → Decl → List Word
unlike_predicates_in sigs predicates (Flow name patterns members) =
    let own = sigs name in unlike_patterns predicates patterns own.ins
unlike_predicates_in sigs predicates other = []

-- ---- rows on sources

-- 22: a source's outputs differ from its target's inputs
abbrev pub unlike_target : WordSigs → Decl → List Word
unlike_target sigs (Source name target) =
    let from = sigs name in let to = sigs target in unless (same_types from.outs to.ins) target
unlike_target sigs other = []

-- 23: a session function's kinds differ from those of the source's outputs
abbrev pub takes_all : Option (List Kind) → List TypeText → Bool
takes_all None types = false
takes_all (Some kinds) types = have_kinds types kinds

abbrev pub unlike_source : (List ℕ → Option (List Kind)) → WordSigs → Decl → List Word
unlike_source sessions sigs (Session source function) =
    let from = sigs source in unless (takes_all (sessions function.text) from.outs) function
unlike_source sessions sigs other = []

-- ---- the rows of each call

abbrev pub flow_rows : WordSigs → Predicates → List Decl → List Row
flow_rows sigs predicates decls =
    (JoinTypes, flat_map (unjoined_in sigs) decls)
    ∷ (CaseCount, flat_map (miscounted_in sigs) decls)
    ∷ (CaseTypes, flat_map (unlike_node_in sigs) decls)
    ∷ (PredicateType, flat_map (unlike_predicates_in sigs predicates) decls)
    ∷ []

-- 16 to 20
abbrev pub sig_rows : LibraryMeaning → List Decl → List Row
sig_rows meaning decls =
    (NoSignature, no_signatures decls)
    ∷ flow_rows (sigs_of meaning decls) (predicates_of meaning decls) decls

-- 22 and 23
abbrev pub source_rows : LibraryMeaning → List Decl → List Row
source_rows meaning decls =
    (SourceTypes, flat_map (unlike_target (sigs_of meaning decls)) decls)
    ∷ (SessionTypes, flat_map (unlike_source meaning.session (sigs_of meaning decls)) decls)
    ∷ []
