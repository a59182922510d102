use Rattle.std.proofs.Common.{◌≡◌, ◌∙◌, subst, Some}
use Rattle.flux_table.specs.Tables.{lock_at, holding_in, line_in}
use Rattle.flux_table.specs.Blockers.{IsAhead, IsLowestOf}
use Rattle.flux_table.proofs.Keys.{found_is}
use Rattle.flux_table.proofs.tables.Table.ahead.Goals as goal

pub returns : goal.returns
returns c =
    let there = c.in_ok-get.ensures.value ∙ found_is c.self.inside.locks.entries c.args.key in
    subst (λ o. IsLowestOf (λ other. IsAhead (holding_in o) (line_in o) other c.args.flow.0 c.args.mode) c.ahead.result)
    (subst (λ locks. Some c.in_ok-get.field-0.now ≡ lock_at locks c.args.key) c.self.view_is there) c.ahead.ensures
