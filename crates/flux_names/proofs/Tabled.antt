-- Rows by the tables of names that the code makes.
use Rattle.std.proofs.Common.{◌≡◌, ℕ, List, [], ◌∷◌, ◌++◌, Option, None, refl, ap, ◌∙◌}
use Rattle.std.specs.List.{flat_map}
use Rattle.flux_values.specs.Meanings.{LibraryMeaning}
use Rattle.flux_faults.specs.declared.faults.FaultKind.TheVariants.{TwiceNamed, UnknownNode, UnknownType, NotInLibrary, UnlikeLibrary, UnknownPredicate, UnknownSession, NotASource, SourceMisused, TooMany, BadCode}
use Rattle.flux_syntax.specs.declared.declarations.Word.{Word}
use Rattle.flux_syntax.specs.declared.declarations.Decl.{Decl}
use Rattle.flux_syntax.specs.Words.{sourced, defined, listed, texts_of}
use Rattle.flux_syntax.specs.Least.{soonest, first_fault}
use Rattle.flux_names.specs.Rows.{sessioned, inner_names, among, not_among, twice_named, unknown_nodes, unknown_types, not_in_library, unlike_library, pattern_words, unknown_function, unknown_predicates_in, unknown_predicates, unknown_sessions, source_node, source_nodes, not_sources_in, not_sources, misused_sources, too_many, bad_codes, rows}
use Rattle.flux_names.specs.steps.Sorts.{names_by}
use Rattle.flux_names.specs.steps.Faults.{first_standing}
use Rattle.flux_names.proofs.Symbols.{known_names_by, same_among, same_not_among, flat_map_same}

pub predicates_tabled : (meaning : LibraryMeaning) (decls : List Decl) → flat_map (unknown_predicates_in meaning (names_by defined decls)) decls ≡ unknown_predicates meaning decls
predicates_tabled meaning decls =
    flat_map_same (unknown_predicates_in meaning (names_by defined decls)) (unknown_predicates_in meaning (texts_of defined decls))
    (λ d. ap (λ (l : List Word). unknown_function meaning d ++ l) (same_not_among (names_by defined decls) (texts_of defined decls) (known_names_by defined decls) (pattern_words d)))
    decls

pub sources_tabled : (meaning : LibraryMeaning) (decls : List Decl) → flat_map (not_sources_in (names_by (source_node meaning) decls) (names_by sourced decls)) decls ≡ not_sources meaning decls
sources_tabled meaning decls =
    flat_map_same (not_sources_in (names_by (source_node meaning) decls) (names_by sourced decls)) (not_sources_in (source_nodes meaning decls) (texts_of sourced decls))
    (λ d.
    ap (λ (l : List Word). l ++ not_among (names_by sourced decls) (listed (sessioned d))) (same_not_among (names_by (source_node meaning) decls) (source_nodes meaning decls) (known_names_by (source_node meaning) decls) (listed (sourced d)))
    ∙ ap (λ (l : List Word). not_among (source_nodes meaning decls) (listed (sourced d)) ++ l) (same_not_among (names_by sourced decls) (texts_of sourced decls) (known_names_by sourced decls) (listed (sessioned d))))
    decls

pub misused_tabled : (meaning : LibraryMeaning) (decls : List Decl) → flat_map (λ d. among (names_by (source_node meaning) decls) (inner_names d)) decls ≡ misused_sources meaning decls
misused_tabled meaning decls =
    flat_map_same (λ d. among (names_by (source_node meaning) decls) (inner_names d)) (λ d. among (source_nodes meaning decls) (inner_names d))
    (λ d. same_among (names_by (source_node meaning) decls) (source_nodes meaning decls) (known_names_by (source_node meaning) decls) (inner_names d))
    decls

-- the first row that applies, by the least places of all
pub faults_are : (meaning : LibraryMeaning) (decls : List Decl) (p5 p6 p7 p8 p9 p10 p11 p12 p13 p14 p28 : Option ℕ)
    → p5 ≡ soonest None (twice_named decls) → p6 ≡ soonest None (unknown_nodes decls) → p7 ≡ soonest None (unknown_types meaning decls) → p8 ≡ soonest None (not_in_library meaning decls)
    → p9 ≡ soonest None (unlike_library meaning decls) → p10 ≡ soonest None (unknown_predicates meaning decls) → p11 ≡ soonest None (unknown_sessions meaning decls) → p12 ≡ soonest None (not_sources meaning decls)
    → p13 ≡ soonest None (misused_sources meaning decls) → p14 ≡ soonest None (too_many decls) → p28 ≡ soonest None (bad_codes decls)
    → first_standing ((TwiceNamed, p5) ∷ (UnknownNode, p6) ∷ (UnknownType, p7) ∷ (NotInLibrary, p8) ∷ (UnlikeLibrary, p9) ∷ (UnknownPredicate, p10) ∷ (UnknownSession, p11) ∷ (NotASource, p12) ∷ (SourceMisused, p13) ∷ (TooMany, p14) ∷ (BadCode, p28) ∷ [])
    ≡ first_fault (rows meaning decls)
faults_are meaning decls p5 p6 p7 p8 p9 p10 p11 p12 p13 p14 p28 e5 e6 e7 e8 e9 e10 e11 e12 e13 e14 e28 = rw (e5, e6, e7, e8, e9, e10, e11, e12, e13, e14, e28) refl
