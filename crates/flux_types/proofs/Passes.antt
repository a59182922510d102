-- What passes over declarations find is what the rows say.
use Rattle.std.proofs.Common.{◌≡◌, ◌++◌, ℕ, Bool, true, false, ◌||◌, if◌then◌else◌, List, [], ◌∷◌, map, Option, Some, None, refl, sym, ap, ◌∙◌}
use Rattle.std.specs.List.{fold, flat_map, filter_map, list_any}
use Rattle.std.specs.Str.{bytes_eq}
use Rattle.std.proofs.lemmas.List.{append_assoc, append-nil}
use Rattle.flux_values.specs.Meanings.{LibraryMeaning}
use Rattle.flux_model.specs.declared.programs.Class.{Class}
use Rattle.flux_syntax.specs.declared.declarations.Word.{Word}
use Rattle.flux_model.specs.declared.signatures.NodeSig.{NodeSig}
use Rattle.flux_model.specs.Types.{same_types}
use Rattle.flux_syntax.specs.declared.declarations.Decl.{Decl}
use Rattle.flux_syntax.specs.declared.declarations.Decl.TheVariants.{Signature, Flow, Source, Typedef, Atomic, Session}
use Rattle.flux_syntax.specs.Words.{known, naming, and_name, names_after, names_of, unless_known, first_words_after, first_words, texts_of, defined, targeted}
use Rattle.flux_syntax.specs.ProgramOfText.{node_of, body_of, classes_of, source_of, places}
use Rattle.flux_syntax.specs.Least.{sooner, soonest}
use Rattle.flux_syntax.proofs.Soonest.{soonest_append}
use Rattle.flux_syntax.proofs.NumberedNames.{texts, names_are_first}
use Rattle.flux_types.specs.declared.flows.FlowPlaces.{FlowPlaces}
use Rattle.flux_types.specs.Rows.{WordSigs, word_sig, Predicates, is_hollow, hollow_node, no_signatures, unjoined_in, miscounted_in, unlike_node_in, unlike_predicates_in, unlike_target, unlike_source}
use Rattle.flux_types.specs.Signatures.{nodes_of}
use Rattle.flux_types.specs.steps.Passing.{hollow_places, target_places, flow_passed, session_passed}

-- ---- flows and sources

-- a row more
more : {A : Type 0} (f : A → List Word) (place : Option ℕ) (x : A) (xs : List A) → soonest (soonest place (f x)) (flat_map f xs) ≡ soonest place (flat_map f (x ∷ xs))
more f place x xs = sym (soonest_append place (f x) (flat_map f xs))

-- the least places of the rows on flows
pub flows_pass : (sigs : WordSigs) (predicates : Predicates) (places : FlowPlaces) (decls : List Decl) → fold (flow_passed sigs predicates) places decls ≡ record {
  joins = soonest places.joins (flat_map (unjoined_in sigs) decls);
  counts = soonest places.counts (flat_map (miscounted_in sigs) decls);
  ends = soonest places.ends (flat_map (unlike_node_in sigs) decls);
  predicates = soonest places.predicates (flat_map (unlike_predicates_in sigs predicates) decls);
}
flows_pass sigs predicates places [] = refl
flows_pass sigs predicates places (d ∷ decls) =
    flows_pass sigs predicates (flow_passed sigs predicates places d) decls ∙ (λ i. record {
      joins = more (unjoined_in sigs) places.joins d decls i;
      counts = more (miscounted_in sigs) places.counts d decls i;
      ends = more (unlike_node_in sigs) places.ends d decls i;
      predicates = more (unlike_predicates_in sigs predicates) places.predicates d decls i;
    })

-- the least place of the row on sessions
pub sessions_pass : (meaning : LibraryMeaning) (sigs : WordSigs) (place : Option ℕ) (decls : List Decl) → fold (session_passed meaning sigs) place decls ≡ soonest place (flat_map (unlike_source meaning.session sigs) decls)
sessions_pass meaning sigs place [] = refl
sessions_pass meaning sigs place (d ∷ decls) =
    sessions_pass meaning sigs (session_passed meaning sigs place d) decls ∙ more (unlike_source meaning.session sigs) place d decls

-- the least place of the row on targets: source lines are beside the places of their targets
module _ (names : List (List ℕ)) (sigs : ℕ → NodeSig) (all : List Decl) where
  abbrev PassTargets : List Decl → Type 0
  PassTargets decls = (place : Option ℕ) → target_places sigs place (filter_map (source_of names all) decls) (places (filter_map targeted decls)) ≡ soonest place (flat_map (unlike_target (word_sig names sigs)) decls)

  pub targets_pass : (decls : List Decl) → PassTargets decls
  targets_pass [] place = refl
  targets_pass (Source name target ∷ decls) place =
      let from = word_sig names sigs name in let to = word_sig names sigs target in
      one (same_types from.outs to.ins) (targets_pass decls)
    where
      one : (t : Bool) → PassTargets decls
          → target_places sigs (if t then place else Some (sooner place target.at)) (filter_map (source_of names all) decls) (places (filter_map targeted decls))
          ≡ soonest place ((if t then [] else target ∷ []) ++ flat_map (unlike_target (word_sig names sigs)) decls)
      one true others = others place
      one false others = others (Some (sooner place target.at))
  targets_pass (other ∷ decls) place = targets_pass decls place

-- ---- nodes

module _ (names types : List (List ℕ)) (classes : List Class) (decls : List Decl) where
  abbrev hollow : Word → List Word
  hollow word = if is_hollow (body_of names types word.text decls) then word ∷ [] else []

  abbrev PassIs : List Word → Type 0
  PassIs words = (place : Option ℕ) → hollow_places place (map (node_of names types classes decls) (texts words)) (places words) ≡ soonest place (flat_map hollow words)

  hollow_pass : (words : List Word) → PassIs words
  hollow_pass [] place = refl
  hollow_pass (w ∷ words) place = one (is_hollow (body_of names types w.text decls)) (hollow_pass words)
    where
      one : (t : Bool) → PassIs words
          → hollow_places (if t then Some (sooner place w.at) else place) (map (node_of names types classes decls) (texts words)) (places words)
          ≡ soonest place ((if t then w ∷ [] else []) ++ flat_map hollow words)
      one true all = all (Some (sooner place w.at))
      one false all = all place

-- the least place of the row on nodes
pub nodes_pass : (decls : List Decl) → hollow_places None (nodes_of decls) (places (first_words decls)) ≡ soonest None (no_signatures decls)
nodes_pass decls =
    ap (λ (names : List (List ℕ)). hollow_places None (map (node_of (names_of decls) (texts_of defined decls) (classes_of decls) decls) names) (places (first_words decls))) (names_are_first decls)
    ∙ hollow_pass (names_of decls) (texts_of defined decls) (classes_of decls) decls (first_words decls) None
