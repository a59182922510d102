-- Declarations at which none of the rows up to 26 applies: what that says of each of them.
use Rattle.std.proofs.Common.{◌≡◌, Bool, true, false, List, [], ◌∷◌, ◌++◌, None, refl}
use Rattle.std.specs.List.{flat_map, AllByRecursion}
use Rattle.flux_syntax.proofs.RowLemmas.{none_either, wordless, none_of_both}
use Rattle.flux_values.specs.Meanings.{LibraryMeaning}
use Rattle.flux_syntax.specs.declared.declarations.Word.{Word}
use Rattle.flux_syntax.specs.declared.declarations.Decl.{Decl}
use Rattle.flux_syntax.specs.Words.{sourced, names_of, texts_of}
use Rattle.flux_syntax.specs.Least.{first_fault}
use Rattle.flux_names.specs.Rows.{word_if, used_names, inner_names, among, not_among, not_in, unlike, source_nodes, not_sources_in, rows}
use Rattle.flux_types.specs.Signatures.{sig_of}
use Rattle.flux_types.specs.Rows.{sig_rows, source_rows}
use Rattle.flux_edges.specs.Rows.{unlike_handler, handler_rows}
use Rattle.flux_check.specs.Rows.{both_scopes, unprotected_in, last_rows, edge_rows, later_rows}
use Rattle.flux_check.specs.Judgement.{AreJoined}

-- ---- of each declaration

-- a word that is there where something holds
pub no_word : (t : Bool) (name : Word) → word_if t name ≡ [] → t ≡ false
no_word true name e = absurd cc
no_word false name e = refl

-- no row on names, handlers or cells applies at a declaration, among all
pub record IsClean (meaning : LibraryMeaning) (all : List Decl) (d : Decl) : Type 0 where
  pub named : not_among (names_of all) (used_names d) ≡ []
  pub present : not_in meaning d ≡ []
  pub like : unlike meaning d ≡ []
  pub origins : not_sources_in (source_nodes meaning all) (texts_of sourced all) d ≡ []
  pub plain : among (source_nodes meaning all) (inner_names d) ≡ []
  pub handlers : unlike_handler (sig_of meaning.kind all) (names_of all) d ≡ []
  pub protected : unprotected_in meaning all d ≡ []

module _ (meaning : LibraryMeaning) (all : List Decl) where
  -- rows of declarations, each without words
  record AreEmpty (decls : List Decl) : Type 0 where
    named : flat_map (λ d. not_among (names_of all) (used_names d)) decls ≡ []
    present : flat_map (not_in meaning) decls ≡ []
    like : flat_map (unlike meaning) decls ≡ []
    origins : flat_map (not_sources_in (source_nodes meaning all) (texts_of sourced all)) decls ≡ []
    plain : flat_map (λ d. among (source_nodes meaning all) (inner_names d)) decls ≡ []
    handlers : flat_map (unlike_handler (sig_of meaning.kind all) (names_of all)) decls ≡ []
    protected : flat_map (unprotected_in meaning all) decls ≡ []

  parts : (of : Decl → List Word) (d : Decl) (decls : List Decl) → flat_map of (d ∷ decls) ≡ [] → (of d ≡ []) × (flat_map of decls ≡ [])
  parts of d decls e = none_either (of d) (flat_map of decls) e

  clean_each : (decls : List Decl) → AreEmpty decls → AllByRecursion (IsClean meaning all) decls
  clean_each [] r = tt
  clean_each (d ∷ decls) r =
      let named = parts (λ x. not_among (names_of all) (used_names x)) d decls r.named in
      let present = parts (not_in meaning) d decls r.present in
      let like = parts (unlike meaning) d decls r.like in
      let origins = parts (not_sources_in (source_nodes meaning all) (texts_of sourced all)) d decls r.origins in
      let plain = parts (λ x. among (source_nodes meaning all) (inner_names x)) d decls r.plain in
      let handlers = parts (unlike_handler (sig_of meaning.kind all) (names_of all)) d decls r.handlers in
      let protected = parts (unprotected_in meaning all) d decls r.protected in (
        record { named = named.0; present = present.0; like = like.0; origins = origins.0; plain = plain.0; handlers = handlers.0; protected = protected.0 },
        clean_each decls (record { named = named.1; present = present.1; like = like.1; origins = origins.1; plain = plain.1; handlers = handlers.1; protected = protected.1 }),
      )

-- no row applies at any of joined declarations
pub all_clean : (meaning : LibraryMeaning) (decls : List Decl) → AreJoined meaning decls → AllByRecursion (IsClean meaning decls) decls
all_clean meaning decls joined =
    let named = wordless (rows meaning decls) joined.ordered.named in
    let later = wordless (later_rows meaning decls) joined.later in
    clean_each meaning decls decls (record {
      named = named.1.0;
      present = named.1.1.1.0;
      like = named.1.1.1.1.0;
      origins = named.1.1.1.1.1.1.1.0;
      plain = named.1.1.1.1.1.1.1.1.0;
      handlers = later.1.1.1.1.1.0;
      protected = later.1.1.1.1.1.1.1.1.1.0;
    })

-- nor does any node have a name in both scopes
pub no_crossed : (meaning : LibraryMeaning) (decls : List Decl) → AreJoined meaning decls → both_scopes decls ≡ []
no_crossed meaning decls joined = let later = wordless (later_rows meaning decls) joined.later in later.1.1.1.1.1.1.1.1.0

-- nor does any of the rows on flows, or on sources
pub no_types : (meaning : LibraryMeaning) (decls : List Decl) → AreJoined meaning decls
    → (first_fault (sig_rows meaning decls) ≡ None) × (first_fault (source_rows meaning decls) ≡ None)
no_types meaning decls joined =
    let sigs = none_of_both (sig_rows meaning decls) (edge_rows meaning decls) joined.later in
    let handlers = none_of_both (handler_rows (sig_of meaning.kind decls) decls) (source_rows meaning decls ++ last_rows meaning decls) sigs.1 in
    let sources = none_of_both (source_rows meaning decls) (last_rows meaning decls) handlers.1 in
    (sigs.0, sources.0)
