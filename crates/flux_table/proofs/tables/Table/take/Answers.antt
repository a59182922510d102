use Rattle.std.proofs.Common.{◌≡◌, ◌∙◌, sym, ap, subst, refl, IsSome, Some, None}
use Rattle.std.proofs.lemmas.Result.{on_err_weaker}
use Rattle.flux_table.specs.Locks.{held_by}
use Rattle.flux_table.specs.Tables.{lock_at, holding_in, line_in, AreInUse}
use Rattle.flux_table.specs.Blockers.{Blocks, IsLowestOf}
use Rattle.flux_table.specs.Changes.{Takes, with_held, one_more, line_without}
use Rattle.flux_table.proofs.Keys.{found_is, changed_is, takes_is, both_ok, unchanged}
use Rattle.flux_table.proofs.InUse.{in_use_after, holder_in_use, taken_in_use}
use Rattle.flux_table.proofs.tables.Table.take.Goals as goal

-- the lock of the key
there : (c : goal.In-Some) → lock_at c.args.self.now c.args.key ≡ Some c.in-Some.lock.now
there c =
    subst (λ locks. lock_at locks c.args.key ≡ Some c.in-Some.lock.now) c.self.view_is (sym (c.in-Some.ensures.value ∙ found_is c.self.inside.locks.entries c.args.key))

pub take-requires : goal.take-requires
take-requires c =
    subst (λ o. IsLowestOf (λ other. Blocks (holding_in o) (line_in o) other c.args.flow.0 c.args.mode) None) (there c) c.requires.free

pub returns-in-Some-clause-ok : goal.returns-in-Some-clause-ok
returns-in-Some-clause-ok c =
    let lock = c.in-Some.lock.now in
    let after = c.take.new.self in
    both_ok c.take.result c.take.ensures.holders c.take.ensures.line (λ held line.
    let changed = changed_is c.self.inside.locks.entries (c.get_mut.follows.lender after).entries c.args.key (Some after)
    ((c.get_mut.follows.holds after).3 (subst IsSome c.in-Some.ensures.value refl)).0 in
    subst (λ before. Takes before (c.get_mut.follows.lender after).entries c.args.flow.0 c.args.key c.args.mode) c.self.view_is
    (takes_is c.self.inside.locks.entries (c.get_mut.follows.lender after).entries c.args.flow.0 c.args.key c.args.mode (Some lock) (Some after) changed
    (sym (c.in-Some.ensures.value ∙ found_is c.self.inside.locks.entries c.args.key)) held line))

pub returns-in-Some-clause-err : goal.returns-in-Some-clause-err
returns-in-Some-clause-err c =
    on_err_weaker c.take.result (λ same. unchanged c.self.inside.locks.entries _ c.args.key c.in-Some.lock.now c.take.new.self (c.get_mut.follows.holds c.take.new.self).0 c.in-Some.ensures.value same ∙ c.self.view_is) c.take.ensures.err

pub returns-in_ok-insert-in-None-clause-ok : goal.returns-in_ok-insert-in-None-clause-ok
returns-in_ok-insert-in-None-clause-ok c =
    let before = c.get_mut.follows.lender-at-none.entries in
    let same : before ≡ c.args.self.now = ap (λ m. m.entries) c.get_mut.follows.holds-at-none ∙ c.self.view_is in
    let fresh = c.in_ok-take-in-None.ensures in
    subst (λ locks. Takes locks c.insert.new.self.entries c.args.flow.0 c.args.key c.args.mode) same
    (takes_is before c.insert.new.self.entries c.args.flow.0 c.args.key c.args.mode None (Some c.take-in-None.new.self)
    (changed_is before c.insert.new.self.entries c.args.key (Some c.take-in-None.new.self) c.in_ok-insert-in-None.ensures.updates.0)
    (ap (λ m. lock_at m.entries c.args.key) c.get_mut.follows.holds-at-none ∙ sym (c.in-None.ensures.value ∙ found_is c.self.inside.locks.entries c.args.key))
    (fresh.holders ∙ ap (λ s. with_held (held_by s.holders) c.args.flow.0 (Some (one_more (held_by s.holders c.args.flow.0) c.args.mode))) c.new-lock.ensures)
    (fresh.line ∙ ap (λ s. line_without s.line c.args.flow.0) c.new-lock.ensures))

pub invariant_of-self : goal.invariant_of-self
invariant_of-self c =
    let locks = c.self.inside.locks.entries in
    let after = c.take.new.self in
    let changed = changed_is locks (c.get_mut.follows.lender after).entries c.args.key (Some after)
    ((c.get_mut.follows.holds after).3 (subst IsSome c.in-Some.ensures.value refl)).0 in
    in_use_after locks (c.get_mut.follows.lender after).entries c.args.key (Some after) changed c.self.invariant
    (taken_in_use c.take.result c.in-Some.lock.now after c.args.flow.0 (one_more (held_by c.in-Some.lock.now.holders c.args.flow.0) c.args.mode)
    c.take.ensures.holders c.take.ensures.err
    (λ same. c.self.invariant c.args.key (sym (c.in-Some.ensures.value ∙ found_is locks c.args.key) ∙ same)))

pub invariant_of-self-in-None : goal.invariant_of-self-in-None
invariant_of-self-in-None c =
    let before = c.get_mut.follows.lender-at-none.entries in
    let lock = c.take-in-None.new.self in
    let none = held_by c.new-lock.result.holders in
    in_use_after before c.insert.new.self.entries c.args.key (Some lock)
    (changed_is before c.insert.new.self.entries c.args.key (Some lock) c.in_ok-insert-in-None.ensures.updates.0)
    (subst AreInUse (sym (ap (λ m. m.entries) c.get_mut.follows.holds-at-none)) c.self.invariant)
    (holder_in_use lock none c.args.flow.0 (one_more (none c.args.flow.0) c.args.mode) c.in_ok-take-in-None.ensures.holders)
