-- What the calls find is what the rows say.
use Rattle.std.proofs.Common.{◌≡◌, ℕ, List, [], ◌∷◌, length, replicate, Option, Some, None, refl, sym, ap, subst, ◌∙◌}
use Rattle.std.specs.List.{fold, flat_map}
use Rattle.flux_values.specs.Meanings.{LibraryMeaning}
use Rattle.flux_faults.specs.declared.faults.FaultKind.{FaultKind}
use Rattle.flux_faults.specs.declared.faults.FaultKind.TheVariants.{NoSignature, SourceTypes, SessionTypes}
use Rattle.flux_faults.specs.declared.faults.CheckFault.{CheckFault}
use Rattle.flux_model.specs.declared.named.Named.{Named}
use Rattle.flux_model.specs.declared.signatures.NodeSig.{NodeSig}
use Rattle.flux_model.specs.declared.programs.Node.{Node}
use Rattle.flux_model.specs.declared.programs.NodeNo.{NodeNo}
use Rattle.flux_model.specs.declared.programs.SourceLine.{SourceLine}
use Rattle.flux_model.specs.Kinds.{sig_at}
use Rattle.flux_model.specs.Ordering.{IsOrder}
use Rattle.flux_syntax.specs.declared.declarations.Decl.{Decl}
use Rattle.flux_syntax.specs.Words.{names_of}
use Rattle.flux_syntax.specs.ProgramOfText.{named_of}
use Rattle.flux_syntax.specs.Least.{Row, soonest, fault_or, first_fault, IsLeastFault}
use Rattle.flux_types.specs.declared.predicates.Predicates.{Predicates}
use Rattle.flux_types.specs.declared.flows.FlowPlaces.{FlowPlaces}
use Rattle.flux_types.specs.Signatures.{nothing, sig_of, AreSigs}
use Rattle.flux_types.specs.Rows.{WordSigs, word_sig, sigs_of, predicates_of, flow_rows, unlike_target, unlike_source, sig_rows, source_rows}
use Rattle.flux_types.specs.Typing.{AreTyped}
use Rattle.flux_types.specs.steps.Filling.{put_lines, put_node}
use Rattle.flux_types.specs.steps.Passing.{kind_in, with_typedef, hollow_places, flow_passed, flow_fault, target_places, session_passed}
use Rattle.flux_types.proofs.Written.{filled_sigs, sigs_same}
use Rattle.flux_types.proofs.Passes.{flows_pass, sessions_pass, targets_pass, nodes_pass}
use Rattle.flux_types.proofs.Told.{predicates_told}

module _ (meaning : LibraryMeaning) (decls : List Decl) where
  words_same : (names : List (List ℕ)) (sigs table : List NodeSig) → names ≡ names_of decls → AreSigs meaning.kind decls sigs → table ≡ sigs → word_sig names (sig_at table) ≡ sigs_of meaning decls
  words_same names sigs table is are same =
      ap (λ (n : List (List ℕ)). word_sig n (sig_at table)) is ∙ ap (λ (s : List NodeSig). word_sig (names_of decls) (sig_at s)) same
      ∙ ap (word_sig (names_of decls)) (sigs_same meaning.kind decls sigs are)

  -- the rows on flows
  pub flows_found : (names : List (List ℕ)) (sigs : List NodeSig) (predicates : Predicates) (places : FlowPlaces)
      → names ≡ names_of decls → AreSigs meaning.kind decls sigs
      → predicates ≡ fold (with_typedef meaning) (record { names = []; kinds = [] }) decls
      → places ≡ fold (flow_passed (word_sig names (sig_at sigs)) (kind_in predicates.names predicates.kinds)) (record { joins = None; counts = None; ends = None; predicates = None }) decls
      → flow_fault places ≡ first_fault (flow_rows (sigs_of meaning decls) (predicates_of meaning decls) decls)
  flows_found names sigs predicates places is are made passed =
      let told : kind_in predicates.names predicates.kinds ≡ predicates_of meaning decls = ap (λ (p : Predicates). kind_in p.names p.kinds) made ∙ predicates_told meaning decls in
      let start : FlowPlaces = record { joins = None; counts = None; ends = None; predicates = None } in
      ap flow_fault (passed
      ∙ ap (λ (s : WordSigs). fold (flow_passed s (kind_in predicates.names predicates.kinds)) start decls) (words_same names sigs sigs is are refl)
      ∙ ap (λ p. fold (flow_passed (sigs_of meaning decls) p) start decls) told
      ∙ flows_pass (sigs_of meaning decls) (predicates_of meaning decls) start decls)

  -- the rows on sources
  pub sources_found : (named : Named) (names : List (List ℕ)) (sigs : List NodeSig) (lines : List SourceLine) (sites : List ℕ) (sessions targets : Option ℕ) (inner fault : Option (FaultKind × ℕ))
      → named ≡ named_of decls → names ≡ names_of decls → AreSigs meaning.kind decls sigs → lines ≡ named.program.sources → sites ≡ named.sites.targets
      → sessions ≡ fold (session_passed meaning (word_sig names (sig_at sigs))) None decls → targets ≡ target_places (sig_at sigs) None lines sites
      → inner ≡ fault_or SessionTypes sessions None → fault ≡ fault_or SourceTypes targets inner → fault ≡ first_fault (source_rows meaning decls)
  sources_found named names sigs lines sites sessions targets inner fault is same_names are same_lines same_sites s t i f =
      let own_lines = same_lines ∙ ap (λ (n : Named). n.program.sources) is in
      let own_sites = same_sites ∙ ap (λ (n : Named). n.sites.targets) is in
      let least_session : sessions ≡ soonest None (flat_map (unlike_source meaning.session (sigs_of meaning decls)) decls) =
      s ∙ ap (λ (w : WordSigs). fold (session_passed meaning w) None decls) (words_same names sigs sigs same_names are refl) ∙ sessions_pass meaning (sigs_of meaning decls) None decls in
      let least_target : targets ≡ soonest None (flat_map (unlike_target (sigs_of meaning decls)) decls) =
      t ∙ (rw (own_lines, own_sites, sigs_same meaning.kind decls sigs are) refl) ∙ targets_pass (names_of decls) (sig_of meaning.kind decls) decls decls None in
      f ∙ (rw (i, least_session, least_target) refl)

  -- the filled table is that of the program
  pub sigs_are : (named : Named) (names : List (List ℕ)) (nodes : List Node) (order numbers : List NodeNo) (sigs : List NodeSig)
      → named ≡ named_of decls → IsOrder named.program.nodes order → names ≡ names_of decls → nodes ≡ named.program.nodes → numbers ≡ order
      → sigs ≡ fold (put_node nodes) (put_lines meaning.kind names decls (replicate (length names) nothing)) numbers
      → AreSigs meaning.kind decls sigs
  sigs_are named names nodes order numbers sigs is ordered same_names same_nodes same_order made =
      let own = same_nodes ∙ ap (λ (n : Named). n.program.nodes) is in
      let filled = filled_sigs meaning.kind decls order (subst (λ (n : Named). IsOrder n.program.nodes order) is ordered) in
      subst (AreSigs meaning.kind decls) (sym (made ∙ (rw (own, same_order, same_names) refl))) filled

  -- with the row on nodes
  pub nodes_found : (named : Named) (nodes : List Node) (sites : List ℕ) (hollow : Option ℕ) (others fault : Option (FaultKind × ℕ))
      → named ≡ named_of decls → nodes ≡ named.program.nodes → sites ≡ named.sites.nodes → hollow ≡ hollow_places None nodes sites
      → others ≡ first_fault (flow_rows (sigs_of meaning decls) (predicates_of meaning decls) decls) → fault ≡ fault_or NoSignature hollow others
      → fault ≡ first_fault (sig_rows meaning decls)
  nodes_found named nodes sites hollow others fault is same_nodes same_sites h o f =
      let own_nodes = same_nodes ∙ ap (λ (n : Named). n.program.nodes) is in
      let own_sites = same_sites ∙ ap (λ (n : Named). n.sites.nodes) is in
      let least = h ∙ (rw (own_nodes, own_sites) refl) ∙ nodes_pass decls in
      f ∙ (rw (o, least) refl)

  -- no row applies
  pub typed_is : (ds : List Decl) (sigs : List NodeSig) (fault : Option (FaultKind × ℕ)) → ds ≡ decls
      → (AreSigs meaning.kind ds sigs) × (fault ≡ first_fault (sig_rows meaning ds)) → fault ≡ None → AreTyped meaning decls sigs
  typed_is ds sigs fault same found none = record {
    sound = sym (sym none ∙ found.1 ∙ ap (λ (l : List Decl). first_fault (sig_rows meaning l)) same);
    are = subst (λ (l : List Decl). AreSigs meaning.kind l sigs) same found.0;
  }

-- a fault that was found is the least of its rows
pub least_is : (rows : List Decl → List Row) (ds decls : List Decl) (fault : Option (FaultKind × ℕ)) (kind : FaultKind) (at : ℕ) (refusal : CheckFault) → ds ≡ decls
    → fault ≡ first_fault (rows ds) → fault ≡ Some (kind, at) → IsLeastFault (Some (kind, at)) refusal → IsLeastFault (first_fault (rows decls)) refusal
least_is rows ds decls fault kind at refusal same found some is =
    subst (λ (f : Option (FaultKind × ℕ)). IsLeastFault f refusal) (sym some ∙ found ∙ ap (λ (l : List Decl). first_fault (rows l)) same) is
