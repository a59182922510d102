use Rattle.std.proofs.Common.{◌≡◌, ◌∙◌, sym, subst, None}
use Rattle.flux_table.specs.Locks.{held_by}
use Rattle.flux_table.specs.Blockers.{StandsAgainst, IsAhead, IsLowestOf, line_before}
use Rattle.flux_table.proofs.Holding.{found_is}
use Rattle.flux_table.proofs.Standing.{lowest_same}
use Rattle.flux_table.proofs.locks.Lock.ahead.Goals as goal

pub returns-in-None : goal.returns-in-None
returns-in-None c =
    let lock = c.args.self.now in
    let free = subst (λ s. held_by s.holders c.args.flow.0 ≡ None) c.self.view_is
    (sym (found_is c.self.inside.holders.entries c.args.flow.0) ∙ sym c.in-None.ensures.value) in
    lowest_same (λ n. StandsAgainst (line_before lock.line c.args.flow.0) n c.args.mode)
    (λ n. IsAhead (held_by lock.holders) lock.line n c.args.flow.0 c.args.mode) c.lowest_against.result
    (λ n stands. record { free = free; stands = stands }) (λ n is. is.stands)
    (subst (λ s. IsLowestOf (λ other. StandsAgainst (line_before s.line c.args.flow.0) other c.args.mode)
    c.lowest_against.result) c.self.view_is c.lowest_against.ensures)
