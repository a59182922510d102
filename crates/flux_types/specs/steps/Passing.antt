-- Steps of the code: one pass over declarations that keeps the least place of each row, and the
-- tables that it looks into. No public clause cites it.
use Rattle.std.specs.Prelude.{ℕ, if◌then◌else◌, List, [], ◌∷◌, ◌++◌, Option, Some, None}
use Rattle.std.specs.List.{slice_get, position_or_len}
use Rattle.std.specs.Option.{unwrap_or}
use Rattle.std.specs.Str.{bytes_eq}
use Rattle.flux_values.specs.declared.values.Kind.{Kind}
use Rattle.flux_values.specs.Meanings.{LibraryMeaning}
use Rattle.flux_model.specs.declared.programs.Node.{Node}
use Rattle.flux_model.specs.declared.programs.SourceLine.{SourceLine}
use Rattle.flux_model.specs.declared.signatures.NodeSig.{NodeSig}
use Rattle.flux_model.specs.Types.{same_types}
use Rattle.flux_faults.specs.declared.faults.FaultKind.{FaultKind}
use Rattle.flux_faults.specs.declared.faults.FaultKind.TheVariants.{JoinTypes, CaseCount, CaseTypes, PredicateType}
use Rattle.flux_syntax.specs.declared.declarations.Word.{Word}
use Rattle.flux_syntax.specs.declared.declarations.Decl.{Decl}
use Rattle.flux_syntax.specs.declared.declarations.Decl.TheVariants.{Typedef}
use Rattle.flux_syntax.specs.Words.{known}
use Rattle.flux_syntax.specs.Least.{sooner, soonest, fault_or}
use Rattle.flux_types.specs.declared.predicates.Predicates.{Predicates}
use Rattle.flux_types.specs.declared.flows.FlowPlaces.{FlowPlaces}
use Rattle.flux_types.specs.Rows.{WordSigs, taken_by, is_hollow, unjoined_in, miscounted_in, unlike_node_in, unlike_predicates_in, unlike_source}
use Rattle.flux_types.specs.Rows as rows

-- ---- predicates

-- what a predicate takes, by its name's place
abbrev pub kind_in : List (List ℕ) → List (Option Kind) → List ℕ → Option Kind
kind_in names kinds name = unwrap_or (slice_get kinds (position_or_len (bytes_eq name) names)) None

abbrev pub with_predicate : Predicates → List ℕ → Option Kind → Predicates
with_predicate table name kind =
    if known table.names name
    then table
    else record { names = table.names ++ name ∷ []; kinds = table.kinds ++ kind ∷ [] }

abbrev pub with_typedef : LibraryMeaning → Predicates → Decl → Predicates
with_typedef meaning table (Typedef name function) =
    with_predicate table name.text (meaning.predicate function.text)
with_typedef meaning table other = table

-- ---- places

-- the least place at which all cases of a node are empty, node after node
abbrev pub hollow_places : Option ℕ → List Node → List ℕ → Option ℕ
hollow_places place (node ∷ nodes) (at ∷ sites) =
    hollow_places (if is_hollow node.body then Some (sooner place at) else place) nodes sites
hollow_places place nodes sites = place

abbrev pub flow_passed : WordSigs → rows.Predicates → FlowPlaces → Decl → FlowPlaces
flow_passed sigs predicates places decl = record {
  joins = soonest places.joins (unjoined_in sigs decl);
  counts = soonest places.counts (miscounted_in sigs decl);
  ends = soonest places.ends (unlike_node_in sigs decl);
  predicates = soonest places.predicates (unlike_predicates_in sigs predicates decl);
}

abbrev pub flow_fault : FlowPlaces → Option (FaultKind × ℕ)
flow_fault places =
    fault_or JoinTypes places.joins (fault_or CaseCount places.counts
    (fault_or CaseTypes places.ends (fault_or PredicateType places.predicates None)))

-- the least place at which a source's outputs differ from its target's inputs, line after line
abbrev pub target_places : (ℕ → NodeSig) → Option ℕ → List SourceLine → List ℕ → Option ℕ
target_places sigs place (line ∷ lines) (at ∷ sites) =
    let from = sigs line.node.0 in let to = sigs line.target.0 in
    target_places sigs
    (if same_types from.outs to.ins then place else Some (sooner place at)) lines sites
target_places sigs place lines sites = place

abbrev pub session_passed : LibraryMeaning → WordSigs → Option ℕ → Decl → Option ℕ
session_passed meaning sigs place decl = soonest place (unlike_source meaning.session sigs decl)
