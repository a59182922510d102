use Rattle.std.proofs.Common.{sym, subst, Some, None}
use Rattle.flux_table.specs.Locks.{held_by}
use Rattle.flux_table.specs.Blockers.{HoldsAgainst, IsLowestOf}
use Rattle.flux_table.proofs.Holding.{first_against, none_against}
use Rattle.flux_table.proofs.locks.Lock.holder_against.Goals as goal

pub returns-then-conflict : goal.returns-then-conflict
returns-then-conflict c =
    let first = c.in_ok-flow.ensures in
    subst (λ s. IsLowestOf (λ other. HoldsAgainst (held_by s.holders) other c.args.mode) (Some c.in_ok-flow.flow.now)) c.self.view_is
    (first_against c.self.inside.holders.entries c.in_ok-flow.flow.now c.in_ok-flow.held.now c.args.mode first.value first.least (sym c.if-conflict.ensures))

pub returns-else-conflict : goal.returns-else-conflict
returns-else-conflict c =
    let first = c.in_ok-flow.ensures in
    subst (λ s. IsLowestOf (λ other. HoldsAgainst (held_by s.holders) other c.args.mode) None) c.self.view_is
    (none_against c.self.inside.holders.entries c.in_ok-flow.flow.now c.in_ok-flow.held.now c.args.mode first.value c.self.invariant.peaceful (sym c.if-conflict.ensures))
