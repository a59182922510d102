use Rattle.std.proofs.Common.{◌∙◌, ap, sym, Some}
use Rattle.flux_cells.proofs.CellLemmas.{some_is, none_some}
use Rattle.flux_cells.proofs.Keys.{found_is}
use Rattle.flux_cells.proofs.touched.has_empty.Goals as goal

pub returns-in-Some : goal.returns-in-Some
returns-in-Some c =
    let there = c.in-Some.ensures.value ∙ found_is c.args.cells.now.entries c.args.key in
    (λ none. sym there ∙ ap Some (c.is_empty.ensures.0 none), λ empty. c.is_empty.ensures.1 (some_is _ _ (there ∙ empty)))

pub returns-in-None : goal.returns-in-None
returns-in-None c = (λ no. absurd (cc), λ empty. none_some _ (c.in-None.ensures.value ∙ found_is c.args.cells.now.entries c.args.key ∙ empty))
