use Rattle.std.proofs.Common.{◌≡◌, ◌∙◌, sym, ap, subst, Some, None}
use Rattle.flux_table.specs.Locks.{held_by, IsOrderly}
use Rattle.flux_table.specs.Blockers.{Blocks, IsLowestOf}
use Rattle.flux_table.specs.Changes.{with_held, one_more}
use Rattle.flux_table.proofs.Holding.{changed_is}
use Rattle.flux_table.proofs.Orderly.{orderly_more}
use Rattle.flux_table.proofs.locks.Lock.take.Goals as goal

-- the map of holders is changed at the flow
changed : (c : goal.After-leave) → held_by c.insert.new.self.entries
    ≡ with_held (held_by c.args.self.now.holders) c.args.flow.0 (Some (one_more (held_by c.args.self.now.holders c.args.flow.0) c.args.mode))
changed c =
    changed_is c.self.inside.holders.entries c.insert.new.self.entries c.args.flow.0 (Some c.in_ok-held.held) c.in_ok-insert.ensures.updates.0
    ∙ ap (λ (s : _). with_held (held_by s.holders) c.args.flow.0 (Some c.in_ok-held.held)) c.self.view_is
    ∙ ap (λ h. with_held (held_by c.args.self.now.holders) c.args.flow.0 (Some h)) (c.in_ok-held.ensures ∙ ap (λ o. one_more o c.args.mode) c.held_by.ensures)

pub returns-clause-holders : goal.returns-clause-holders
returns-clause-holders c = changed c

pub invariant_of-self-2 : goal.invariant_of-self-2
invariant_of-self-2 c =
    let held = held_by c.args.self.now.holders in
    let unblocked = subst (λ line. IsLowestOf (λ other. Blocks held line other c.args.flow.0 c.args.mode) None) (sym (ap (λ s. s.line) c.self.view_is)) c.requires in
    subst (IsOrderly (held_by c.insert.new.self.entries)) (sym c.leave.ensures)
    (orderly_more held (held_by c.insert.new.self.entries) c.self.inside.line c.args.flow.0 c.args.mode
    (subst (λ s. IsOrderly (held_by s.holders) c.self.inside.line) c.self.view_is c.self.invariant) unblocked (changed c))
