use Rattle.std.proofs.Common.{◌≡◌, ◌∙◌, sym, ap, subst, refl, IsSome, Some, None}
use Rattle.flux_table.specs.Locks.{held_by, IsOrderly}
use Rattle.flux_table.specs.Changes.{with_held, one_less}
use Rattle.flux_table.proofs.Holding.{changed_is}
use Rattle.flux_table.proofs.Orderly.{orderly_less}
use Rattle.flux_table.proofs.locks.Lock.release.Goals as goal

removed : (c : goal.After-remove) → held_by c.remove.new.self.entries
    ≡ with_held (held_by c.args.self.now.holders) c.args.flow.0 (one_less (held_by c.args.self.now.holders c.args.flow.0))
removed c =
    changed_is _ _ c.args.flow.0 None c.remove.ensures.updates.0
    ∙ ap (λ s. with_held (held_by s.holders) c.args.flow.0 None) c.self.view_is
    ∙ ap (with_held (held_by c.args.self.now.holders) c.args.flow.0) (sym c.in-None.is ∙ c.fewer.ensures ∙ ap one_less c.held_by.ensures)

pub returns-in-None-clause-holders : goal.returns-in-None-clause-holders
returns-in-None-clause-holders c = removed c

pub invariant_of-self-in-None : goal.invariant_of-self-in-None
invariant_of-self-in-None c =
    orderly_less (held_by c.args.self.now.holders) (held_by c.remove.new.self.entries) c.self.inside.line c.args.flow.0
    (subst (λ s. IsOrderly (held_by s.holders) c.self.inside.line) c.self.view_is c.self.invariant) (removed c)

written : (c : goal.After-self-in-Some-get_mut-1) → held_by (c.get_mut.follows.lender c.in-Some.fewer).entries
    ≡ with_held (held_by c.args.self.now.holders) c.args.flow.0 (one_less (held_by c.args.self.now.holders c.args.flow.0))
written c =
    changed_is c.self.inside.holders.entries _ c.args.flow.0 (Some c.in-Some.fewer) ((c.get_mut.follows.holds c.in-Some.fewer).3 (subst IsSome c.in-Some-get_mut.ensures.value refl)).0
    ∙ ap (λ s. with_held (held_by s.holders) c.args.flow.0 (Some c.in-Some.fewer)) c.self.view_is
    ∙ ap (with_held (held_by c.args.self.now.holders) c.args.flow.0) (sym c.in-Some.is ∙ c.fewer.ensures ∙ ap one_less c.held_by.ensures)

pub returns-in-Some-get_mut-clause-holders : goal.returns-in-Some-get_mut-clause-holders
returns-in-Some-get_mut-clause-holders c = written c

pub invariant_of-self : goal.invariant_of-self
invariant_of-self c =
    orderly_less (held_by c.args.self.now.holders) (held_by (c.get_mut.follows.lender c.in-Some.fewer).entries) c.self.inside.line c.args.flow.0
    (subst (λ s. IsOrderly (held_by s.holders) c.self.inside.line) c.self.view_is c.self.invariant) (written c)
