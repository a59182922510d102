-- The program of sound declarations is sound for the library, and has names.
use Rattle.std.proofs.Common.{◌≡◌, ◌≤◌, ℕ, List, [], ◌∷◌, ◌++◌, length, map, Option, Some, None, refl, sym, subst, ◌∙◌, arith}
use Rattle.flux_values.specs.Meanings.{LibraryMeaning}
use Rattle.flux_model.specs.declared.programs.NodeNo.{NodeNo}
use Rattle.flux_model.specs.declared.signatures.NodeSig.{NodeSig}
use Rattle.flux_model.specs.Names.{IsNamed}
use Rattle.flux_model.specs.Numbered.{IsNumbered}
use Rattle.flux_model.specs.Ordering.{IsOrder}
use Rattle.flux_model.specs.Kinds.{NodeKinds, node_kinds, sig_at, kinds_at}
use Rattle.flux_model.specs.Soundness.{IsSound}
use Rattle.flux_syntax.specs.declared.declarations.Decl.{Decl}
use Rattle.flux_syntax.specs.Declares.{Declares}
use Rattle.flux_syntax.specs.ProgramOfText.{program_of, named_of}
use Rattle.flux_syntax.specs.Least.{Row, soonest, fault_or, first_fault}
use Rattle.flux_syntax.proofs.RowLemmas.{no_fault}
use Rattle.flux_syntax.proofs.Standing.{all_stand}
use Rattle.flux_syntax.proofs.Texts.{few_words}
use Rattle.flux_names.proofs.Numbers.{numbered}
use Rattle.flux_types.specs.Signatures.{nodes_of, sig_of}
use Rattle.flux_types.proofs.Written.{filled_sigs, sigs_same}
use Rattle.flux_edges.specs.Rows.{session_rows, handler_rows}
use Rattle.flux_edges.proofs.Along.{all_served}
use Rattle.flux_edges.proofs.Needs.{needs_from_needed}
use Rattle.flux_edges.proofs.Texts.{sessions_least, sources_many}
use Rattle.flux_types.specs.Rows.{sig_rows, source_rows}
use Rattle.flux_check.specs.Rows.{constraint_rows, last_rows, edge_rows, later_rows}
use Rattle.flux_check.specs.Judgement.{AreSound}
use Rattle.flux_check.proofs.Soundness.{sound}
use Rattle.flux_check.proofs.Identified.{names_kept}
use Rattle.flux_upheld.specs.Laws.{SoundDeclarationsAreSound}
use Rattle.flux_upheld.proofs.Ordered.{order-found}

-- where no row of two lists applies none of the second does
later-none : (a b : List Row) → first_fault (a ++ b) ≡ None → first_fault b ≡ None
later-none [] b none = none
later-none (row ∷ a) b none = later-none a b (no_fault row.0 (soonest None row.1) (first_fault (a ++ b)) none).1

module _ (meaning : LibraryMeaning) (decls : List Decl) (text : List ℕ) (declared : Declares decls text) (is : AreSound meaning decls) where
  are-numbered : IsNumbered (program_of decls)
  are-numbered = let joined = is.joined in let ordered = joined.ordered in
      let few = few_words decls text declared in
      numbered meaning decls (omega (arith, few)) ordered.named

  an-order : (order : List NodeNo) × IsOrder (nodes_of decls) order
  an-order = let joined = is.joined in let ordered = joined.ordered in let own = are-numbered in
      order-found (nodes_of decls) own.nodes ordered.acyclic

  no-session_row : first_fault (session_rows decls) ≡ None
  no-session_row = let joined = is.joined in
      later-none (constraint_rows meaning decls) (session_rows decls)
      (later-none (source_rows meaning decls) (last_rows meaning decls)
      (later-none (handler_rows (sig_of meaning.kind decls) decls) (source_rows meaning decls ++ last_rows meaning decls)
      (later-none (sig_rows meaning decls) (edge_rows meaning decls) joined.later)))

  pub kinds-of : ℕ → NodeKinds
  kinds-of number = node_kinds (sig_of meaning.kind decls number)

  -- with the kinds of its nodes' signatures
  pub program-sound : IsSound meaning (program_of decls) (λ number. node_kinds (sig_of meaning.kind decls number))
  program-sound =
      let (order, is_order) = an-order in
      let sigs = filled_sigs meaning.kind decls order is_order in
      let p = program_of decls in
      let named = named_of decls in
      let sites = named.sites in
      let row = no_fault _ _ _ no-session_row in
      let served = all_served p (needs_from_needed p order is_order) p.sources sites.sources (sources_many decls) (sessions_least decls ∙ row.0) in
      subst (λ (of : ℕ → NodeSig). IsSound meaning (program_of decls) (λ number. node_kinds (of number))) (sigs_same meaning.kind decls _ sigs)
      (sound meaning decls order _ are-numbered is_order sigs is.joined served)

  pub program-named : IsNamed (program_of decls)
  program-named = let own = are-numbered in names_kept text decls own.canonical (all_stand decls text declared)

pub declarations-sound : SoundDeclarationsAreSound
declarations-sound meaning decls text declared is = record { sound = program-sound meaning decls text declared is; named = program-named meaning decls text declared is }
