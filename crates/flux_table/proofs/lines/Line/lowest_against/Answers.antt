use Rattle.std.proofs.Common.{◌∙◌, subst}
use Rattle.flux_table.specs.Blockers.{StandsAgainst, IsLowestOf, line_before}
use Rattle.flux_table.proofs.Sets.{lowest_before}
use Rattle.flux_table.proofs.lines.Line.lowest_against.Goals as goal

pub returns-then-stands : goal.returns-then-stands
returns-then-stands c =
    subst (λ l. IsLowestOf (λ other. StandsAgainst (line_before l c.args.flow.0) other c.args.mode) c.stander_against.result)
    (c.as_slice-line.ensures ∙ c.self.view_is) c.stander_against.ensures

pub returns : goal.returns
returns c =
    lowest_before c.args.self.now c.args.flow.0 c.args.mode c.lowest_of_all.result (c.stands.ensures.0 c.if-stands.false) c.lowest_of_all.ensures
