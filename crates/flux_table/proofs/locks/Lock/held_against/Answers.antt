use Rattle.std.proofs.Common.{◌≡◌, ◌∙◌, sym, subst, None}
use Rattle.flux_table.specs.Locks.{held_by}
use Rattle.flux_table.specs.Blockers.{HoldsAgainst, IsHeldAgainst}
use Rattle.flux_table.proofs.Holding.{found_is}
use Rattle.flux_table.proofs.Standing.{lowest_same}
use Rattle.flux_table.proofs.locks.Lock.held_against.Goals as goal

pub returns-in-None : goal.returns-in-None
returns-in-None c =
    let lock = c.args.self.now in
    let free = subst (λ s. held_by s.holders c.args.flow.0 ≡ None) c.self.view_is
    (sym (found_is c.self.inside.holders.entries c.args.flow.0) ∙ sym c.in-None.ensures.value) in
    lowest_same (λ n. HoldsAgainst (held_by lock.holders) n c.args.mode)
    (λ n. IsHeldAgainst (held_by lock.holders) n c.args.flow.0 c.args.mode) c.holder_against.result
    (λ n holds. record { free = free; holds = holds }) (λ n is. is.holds) c.holder_against.ensures
