use Rattle.std.proofs.Common.{◌≡◌, sym, subst, true}
use Rattle.flux_table.specs.Blockers.{IsLowestOf}
use Rattle.flux_table.specs.Lines.{has}
use Rattle.flux_table.proofs.Sets.{lowest_first}
use Rattle.flux_table.proofs.lines.lowest_of.Goals as goal

pub returns : goal.returns
returns c =
    let first = c.first.ensures in
    subst (IsLowestOf (λ n. has c.args.flows.now n ≡ true)) (sym c.copied.ensures)
    (lowest_first c.args.flows.now c.first.result first.variant.1 first.member first.least)
