use Rattle.std.proofs.Common.{◌≡◌, ◌∙◌, sym, subst, None}
use Rattle.flux_table.specs.Locks.{held_by}
use Rattle.flux_table.specs.Blockers.{StandsAgainst, IsLowestOf, line_before}
use Rattle.flux_table.proofs.Holding.{found_is}
use Rattle.flux_table.proofs.Blocking.{lowest_blocker}
use Rattle.flux_table.proofs.locks.Lock.blocker.Goals as goal

pub returns-in-None : goal.returns-in-None
returns-in-None c =
    let lock = c.args.self.now in
    let free = sym (found_is c.self.inside.holders.entries c.args.flow.0) ∙ sym c.in-None.ensures.value in
    lowest_blocker (held_by lock.holders) lock.line c.args.flow.0 c.args.mode c.holder_against.result c.lowest_against.result c.lower.result
    (subst (λ s. held_by s.holders c.args.flow.0 ≡ None) c.self.view_is free)
    c.holder_against.ensures
    (subst (λ s. IsLowestOf (λ other. StandsAgainst (line_before s.line c.args.flow.0) other c.args.mode) c.lowest_against.result) c.self.view_is c.lowest_against.ensures)
    c.lower.ensures
