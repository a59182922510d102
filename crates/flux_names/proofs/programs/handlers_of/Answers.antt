use Rattle.std.proofs.Common.{◌∙◌, ◌++◌, ℕ, List, [], get_or, ap, sym}
use Rattle.std.specs.List.{flat_map}
use Rattle.flux_syntax.specs.declared.declarations.Decl.{Decl}
use Rattle.flux_names.specs.steps.Nodes.{handler_sites_in}
use Rattle.flux_names.proofs.Gathered.{sites_more}
use Rattle.flux_names.proofs.programs.handlers_of.Goals as goal

pub loop-number-preserved : goal.loop-number-preserved
loop-number-preserved c =
    let lines = c.args.lines.now in
    let number = c.loop-number.number in
    c.in_ok-add_handlers.ensures
    ∙ ap (λ (own : List Decl). c.loop-number.handlers ++ flat_map handler_sites_in own) c.of.ensures
    ∙ ap (λ (l : List ℕ). l ++ flat_map handler_sites_in (get_or lines number [])) c.loop-number.invariant
    ∙ sym (sites_more lines number)
