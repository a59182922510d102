use Rattle.std.proofs.Common.{◌∙◌, ℕ, List, None, ap}
use Rattle.std.specs.List.{flat_map}
use Rattle.flux_syntax.specs.declared.declarations.Word.{Word}
use Rattle.flux_syntax.specs.Words.{first_words}
use Rattle.flux_syntax.specs.Least.{soonest}
use Rattle.flux_names.specs.Rows.{among, not_among, used_names, inner_names, unknown_predicates_in, source_node, not_sources_in}
use Rattle.flux_names.specs.steps.Sorts.{names_by}
use Rattle.flux_names.specs.steps.Faults.{too_many_of}
use Rattle.flux_names.proofs.Tabled.{predicates_tabled, sources_tabled, misused_tabled, faults_are}
use Rattle.flux_names.proofs.resolving.find_by.Goals as goal

pub returns : goal.returns
returns g c =
    let meaning = g.L.Meaning.meaning c.args.library.now in
    let decls = c.args.decls.now in
    let symbols = c.args.symbols.now in
    let known = c.args.known.now in
    let sources = names_by (source_node meaning) decls in
    c.first_standing.ensures
    ∙ faults_are meaning decls _ _ _ _ _ _ _ _ _ _ _
    c.in_ok-twice_named.ensures
    (c.in_ok-unknown_node.ensures ∙ ap (λ (names : List (List ℕ)). soonest None (flat_map (λ d. not_among names (used_names d)) decls)) c.requires.nodes)
    c.in_ok-unknown_type.ensures
    c.in_ok-not_in_library.ensures
    c.in_ok-unlike_library.ensures
    (c.in_ok-unknown_predicate.ensures
    ∙ ap (λ (types : List (List ℕ)). soonest None (flat_map (unknown_predicates_in meaning types) decls)) c.requires.types
    ∙ ap (soonest None) (predicates_tabled meaning decls))
    c.in_ok-unknown_session.ensures
    (c.in_ok-not_a_source.ensures
    ∙ ap (λ (s : List (List ℕ)). soonest None (flat_map (not_sources_in s known.lines.now) decls)) c.requires.sources
    ∙ ap (λ (l : List (List ℕ)). soonest None (flat_map (not_sources_in sources l) decls)) c.requires.lines
    ∙ ap (soonest None) (sources_tabled meaning decls))
    (c.in_ok-source_misused.ensures
    ∙ ap (λ (s : List (List ℕ)). soonest None (flat_map (λ d. among s (inner_names d)) decls)) c.requires.sources
    ∙ ap (soonest None) (misused_tabled meaning decls))
    (c.too_many.ensures
    ∙ ap (λ (ws : List Word). soonest None (too_many_of ws symbols.classes.words)) c.requires.words
    ∙ ap (λ (ws : List Word). soonest None (too_many_of (first_words decls) ws)) c.requires.class_words)
    c.in_ok-bad_code.ensures
