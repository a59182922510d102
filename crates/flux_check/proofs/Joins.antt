-- The types of signatures agree, within cases and at handlers and sources.
use Rattle.std.proofs.Common.{◌≡◌, ℕ, Bool, true, false, if◌then◌else◌, List, [], ◌∷◌, ◌++◌, map, Some, refl, sym, ap, subst, ◌∙◌}
use Rattle.std.specs.List.{slice_get, list_any, filter_map, AllByRecursion}
use Rattle.std.specs.Str.{bytes_eq}
use Rattle.flux_values.specs.Meanings.{LibraryMeaning}
use Rattle.flux_model.specs.declared.programs.Body.TheVariants.{Concrete, Abstract}
use Rattle.flux_model.specs.declared.programs.Case.{Case}
use Rattle.flux_model.specs.declared.programs.HandleArm.{HandleArm}
use Rattle.flux_model.specs.declared.programs.Node.{Node}
use Rattle.flux_model.specs.declared.programs.NodeNo.{NodeNo}
use Rattle.flux_model.specs.declared.signatures.NodeSig.{NodeSig}
use Rattle.flux_model.specs.declared.signatures.TypeText.{TypeText}
use Rattle.flux_model.specs.Leading.{handlers_of}
use Rattle.flux_model.specs.Types.{same_types}
use Rattle.flux_syntax.specs.declared.declarations.Word.{Word}
use Rattle.flux_syntax.specs.declared.declarations.Decl.{Decl}
use Rattle.flux_syntax.specs.declared.declarations.Decl.TheVariants.{Handler}
use Rattle.flux_syntax.specs.Words.{defined, names_of, texts_of}
use Rattle.flux_syntax.specs.ProgramOfText.{place_of, is_signed, case_of, arm_of, library_name, program_of}
use Rattle.flux_syntax.proofs.NumberedNames.{place_at}
use Rattle.flux_edges.specs.Rows.{word_unless}
use Rattle.flux_hoist.specs.Types.{TypesJoin, AreCasesTyped, AreHandlersTyped, TypesAgree}
use Rattle.flux_types.specs.Signatures.{sig_of}
use Rattle.flux_types.proofs.SoundTypes.{Joined, same_ins, typed_decls, cases_joined, sources_fit}
use Rattle.flux_check.specs.Judgement.{AreJoined}
use Rattle.flux_check.proofs.Rowless.{IsClean, all_clean, no_types}
use Rattle.flux_check.proofs.Numbered.{node_named, map_get}

edge_holds : (t : Bool) (word : Word) → word_unless t word ≡ [] → t ≡ true
edge_holds true word e = refl
edge_holds false word e = absurd cc

module _ (meaning : LibraryMeaning) (all : List Decl) where
  abbrev names : List (List ℕ)
  names = names_of all

  abbrev S : ℕ → NodeSig
  S = sig_of meaning.kind all

  -- types that go through the members do so one after another
  join_typed : (types outs : List TypeText) (members : List NodeNo) → Joined meaning all types members outs → TypesJoin S types members outs
  join_typed types outs [] e = cc
  join_typed types outs (member ∷ members) e =
      let first : types ≡ NodeSig.ins (S member.0) = cc in
      let rest : Joined meaning all (NodeSig.outs (S member.0)) members outs = cc in
      (first, join_typed (NodeSig.outs (S member.0)) outs members rest)

  all_typed : (own : NodeSig) (cases : List Case) → AllByRecursion (λ case. Joined meaning all own.ins case.members own.outs) cases
      → AllByRecursion (λ case. TypesJoin S own.ins case.members own.outs) cases
  all_typed own [] joined = tt
  all_typed own (case ∷ cases) (first, joined) = (join_typed own.ins own.outs case.members first, all_typed own cases joined)

  -- each handler of a node takes what the node takes
  handlers_typed : (number : ℕ) (name : List ℕ) → slice_get names number ≡ Some name → (decls : List Decl) → AllByRecursion (IsClean meaning all) decls
      → AreHandlersTyped S (S number) (handlers_of (filter_map (arm_of names name) decls))
  handlers_typed number name at [] clean = tt
  handlers_typed number name at (Handler node codes handler ∷ decls) clean = one (bytes_eq node.text name) refl (handlers_typed number name at decls clean.1)
    where
      Typed : List HandleArm → Type 0
      Typed arms = AreHandlersTyped S (S number) (handlers_of arms)

      one : (t : Bool) → bytes_eq node.text name ≡ t → Typed (filter_map (arm_of names name) decls) → Typed (filter_map (arm_of names name) (Handler node codes handler ∷ decls))
      one true i more =
          let place : place_of names node ≡ number = place_at all number name node.text at i in
          let here = clean.0 in let own = S (place_of names node) in let their = S (place_of names handler) in
          let same = same_ins meaning all (place_of names node) (place_of names handler) (edge_holds (same_types own.ins their.ins) handler here.handlers) in
          rw i (sym same ∙ ap (λ (n : ℕ). NodeSig.ins (S n)) place, more)
      one false i more = rw i more
  handlers_typed number name at (other ∷ decls) clean = handlers_typed number name at decls clean.1

  module _ (joined : AreJoined meaning all) where
    cases_typed : (number : ℕ) (name : List ℕ) → slice_get names number ≡ Some name → (signed : Bool)
        → AreCasesTyped S (S number) (if signed then Concrete (library_name name) else Abstract (filter_map (case_of names (texts_of defined all) name) all))
    cases_typed number name at true = tt
    cases_typed number name at false = all_typed (S number) (filter_map (case_of names (texts_of defined all) name) all)
        (cases_joined meaning all number name at all (typed_decls meaning all (no_types meaning all joined).0))

    -- where no row up to 26 applies, types agree
    pub types_agree : TypesAgree (program_of all) S
    types_agree = record {
      cases_ = λ number node at.
          let image = map_get (node_named all) names number node at in
          subst (λ (n : Node). AreCasesTyped S (S number) n.body) image.is (cases_typed number image.from image.at (list_any (is_signed image.from) all));
      handlers = λ number node at.
          let image = map_get (node_named all) names number node at in
          subst (λ (n : Node). AreHandlersTyped S (S number) (handlers_of n.on_fail)) image.is
          (handlers_typed number image.from image.at all (all_clean meaning all joined));
      sources = sources_fit meaning all (no_types meaning all joined).1;
    }
