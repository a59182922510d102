use Rattle.std.proofs.Common.{◌≡◌, ◌∙◌, ℕ, List, length, map, ap, sym}
use Rattle.std.specs.List.{flat_map, filter_map}
use Rattle.std.proofs.lemmas.List.{length-map}
use Rattle.flux_syntax.specs.declared.declarations.Decl.{Decl}
use Rattle.flux_syntax.specs.Words.{names_of, first_words, sourced, targeted}
use Rattle.flux_syntax.specs.ProgramOfText.{places, handler_place}
use Rattle.flux_names.specs.steps.Nodes.{lines_of, handler_sites_from}
use Rattle.flux_names.proofs.Gathered.{handlers_are}
use Rattle.flux_names.proofs.programs.sites_of.Goals as goal

pub handlers_of-requires : goal.handlers_of-requires
handlers_of-requires c =
    c.len.ensures ∙ ap length c.requires.names ∙ sym (length-map (names_of c.args.decls.now) (lines_of c.args.decls.now)) ∙ ap length (sym c.requires.lines)

pub returns : goal.returns
returns c =
    let decls = c.args.decls.now in
    let nodes : c.in_ok-places_of.field-0 ≡ places (first_words decls) = c.in_ok-places_of.ensures ∙ ap places (c.as_slice.ensures ∙ c.requires.words) in
    let handlers : c.in_ok-handlers_of.field-0 ≡ flat_map (λ name. filter_map (handler_place name) decls) (names_of decls) =
    c.in_ok-handlers_of.ensures
    ∙ ap (λ (ls : List (List Decl)). handler_sites_from ls c.len.result) c.requires.lines
    ∙ ap (handler_sites_from (map (lines_of decls) (names_of decls))) (c.len.ensures ∙ ap length c.requires.names)
    ∙ handlers_are decls in
    ap (λ (x : List ℕ). record { nodes = x; targets = c.in_ok-places_by.field-0; sources = c.in_ok-places_by-2.field-0; handlers = c.in_ok-handlers_of.field-0 }) nodes
    ∙ ap (λ (x : List ℕ). record { nodes = places (first_words decls); targets = x; sources = c.in_ok-places_by-2.field-0; handlers = c.in_ok-handlers_of.field-0 }) c.in_ok-places_by.ensures
    ∙ ap (λ (x : List ℕ). record { nodes = places (first_words decls); targets = places (filter_map targeted decls); sources = x; handlers = c.in_ok-handlers_of.field-0 }) c.in_ok-places_by-2.ensures
    ∙ ap (λ (x : List ℕ). record { nodes = places (first_words decls); targets = places (filter_map targeted decls); sources = places (filter_map sourced decls); handlers = x }) handlers
