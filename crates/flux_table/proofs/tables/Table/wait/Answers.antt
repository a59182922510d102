use Rattle.std.proofs.Common.{◌≡◌, ◌++◌, ◌∷◌, [], ◌∙◌, sym, ap, subst, refl, IsSome, Some, None}
use Rattle.std.proofs.lemmas.Result.{on_ok_weaker, on_err_weaker}
use Rattle.flux_table.specs.Locks.{held_by, StandsNowhere}
use Rattle.flux_table.specs.Tables.{lock_at, holding_in, line_in, AreInUse}
use Rattle.flux_table.specs.Changes.{Waits}
use Rattle.flux_table.proofs.Keys.{found_is, changed_is, waits_is, unchanged}
use Rattle.flux_table.proofs.InUse.{in_use_after, waited_in_use, stood_in_use}
use Rattle.flux_table.proofs.tables.Table.wait.Goals as goal

-- the lock of the key
there : (c : goal.In-Some) → lock_at c.args.self.now c.args.key ≡ Some c.in-Some.lock.now
there c =
    subst (λ locks. lock_at locks c.args.key ≡ Some c.in-Some.lock.now) c.self.view_is (sym (c.in-Some.ensures.value ∙ found_is c.self.inside.locks.entries c.args.key))

pub wait-requires-clause-free : goal.wait-requires-clause-free
wait-requires-clause-free c = subst (λ o. holding_in o c.args.flow.0 ≡ None) (there c) c.requires.free

pub wait-requires-clause-stands : goal.wait-requires-clause-stands
wait-requires-clause-stands c = subst (λ o. StandsNowhere (line_in o) c.args.flow.0) (there c) (c.requires.stands c.args.key)

pub returns-in-Some-clause-ok : goal.returns-in-Some-clause-ok
returns-in-Some-clause-ok c =
    let after = c.wait.new.self in
    on_ok_weaker c.wait.result (λ line.
    let changed = changed_is c.self.inside.locks.entries (c.get_mut.follows.lender after).entries c.args.key (Some after)
    ((c.get_mut.follows.holds after).3 (subst IsSome c.in-Some.ensures.value refl)).0 in
    subst (λ before. Waits before (c.get_mut.follows.lender after).entries c.args.flow c.args.key c.args.mode) c.self.view_is
    (waits_is c.self.inside.locks.entries (c.get_mut.follows.lender after).entries c.args.flow c.args.key c.args.mode (Some c.in-Some.lock.now) (Some after) changed
    (sym (c.in-Some.ensures.value ∙ found_is c.self.inside.locks.entries c.args.key)) (ap held_by c.wait.ensures.holders) line)) c.wait.ensures.line

pub returns-in-Some-clause-err : goal.returns-in-Some-clause-err
returns-in-Some-clause-err c =
    on_err_weaker c.wait.result (λ same. unchanged c.self.inside.locks.entries _ c.args.key c.in-Some.lock.now c.wait.new.self (c.get_mut.follows.holds c.wait.new.self).0 c.in-Some.ensures.value same ∙ c.self.view_is) c.wait.ensures.err

pub returns-in_ok-insert-in-None-clause-ok : goal.returns-in_ok-insert-in-None-clause-ok
returns-in_ok-insert-in-None-clause-ok c =
    let before = c.get_mut.follows.lender-at-none.entries in
    let same : before ≡ c.args.self.now = ap (λ m. m.entries) c.get_mut.follows.holds-at-none ∙ c.self.view_is in
    let fresh = c.in_ok-wait-in-None.ensures in
    subst (λ locks. Waits locks c.insert.new.self.entries c.args.flow c.args.key c.args.mode) same
    (waits_is before c.insert.new.self.entries c.args.flow c.args.key c.args.mode None (Some c.wait-in-None.new.self)
    (changed_is before c.insert.new.self.entries c.args.key (Some c.wait-in-None.new.self) c.in_ok-insert-in-None.ensures.updates.0)
    (ap (λ m. lock_at m.entries c.args.key) c.get_mut.follows.holds-at-none ∙ sym (c.in-None.ensures.value ∙ found_is c.self.inside.locks.entries c.args.key))
    (ap held_by (fresh.holders ∙ ap (λ s. s.holders) c.new-lock.ensures))
    (fresh.line ∙ ap (λ s. s.line ++ record { flow = c.args.flow; mode = c.args.mode } ∷ []) c.new-lock.ensures))

pub invariant_of-self : goal.invariant_of-self
invariant_of-self c =
    let locks = c.self.inside.locks.entries in
    let after = c.wait.new.self in
    let changed = changed_is locks (c.get_mut.follows.lender after).entries c.args.key (Some after)
    ((c.get_mut.follows.holds after).3 (subst IsSome c.in-Some.ensures.value refl)).0 in
    in_use_after locks (c.get_mut.follows.lender after).entries c.args.key (Some after) changed c.self.invariant
    (stood_in_use c.wait.result c.in-Some.lock.now after (record { flow = c.args.flow; mode = c.args.mode })
    c.wait.ensures.line c.wait.ensures.err
    (λ same. c.self.invariant c.args.key (sym (c.in-Some.ensures.value ∙ found_is locks c.args.key) ∙ same)))

pub invariant_of-self-in-None : goal.invariant_of-self-in-None
invariant_of-self-in-None c =
    let before = c.get_mut.follows.lender-at-none.entries in
    let lock = c.wait-in-None.new.self in
    in_use_after before c.insert.new.self.entries c.args.key (Some lock)
    (changed_is before c.insert.new.self.entries c.args.key (Some lock) c.in_ok-insert-in-None.ensures.updates.0)
    (subst AreInUse (sym (ap (λ m. m.entries) c.get_mut.follows.holds-at-none)) c.self.invariant)
    (waited_in_use lock c.new-lock.result.line (record { flow = c.args.flow; mode = c.args.mode }) c.in_ok-wait-in-None.ensures.line)
