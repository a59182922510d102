use Rattle.std.proofs.Common.{◌≡◌, ◌∙◌, sym, subst, refl, IsSome, Some, None}
use Rattle.std.proofs.lemmas.Bool.{false≢true}
use Rattle.std.proofs.lemmas.Option.{none-some, same_Some}
use Rattle.flux_table.specs.Tables.{lock_at, holding_in}
use Rattle.flux_table.specs.Changes.{Releases}
use Rattle.flux_table.proofs.Keys.{found_is, changed_is, changed_twice, releases_is, idle_holding, idle_line}
use Rattle.flux_table.proofs.InUse.{idle, in_use_after}
use Rattle.flux_table.proofs.tables.Table.release.Goals as goal

pub returns-in_default : goal.returns-in_default
returns-in_default c =
    let gone = subst (λ locks. lock_at locks c.args.key ≡ None) c.self.view_is (sym (c.in_default.ensures.value ∙ found_is c.self.inside.locks.entries c.args.key)) in
    absurd (false≢true (subst (λ o. IsSome (holding_in o c.args.flow.0)) gone c.requires))

pub returns-then-is_idle : goal.returns-then-is_idle
returns-then-is_idle c =
    let lock = c.release.new.self in
    let idle = c.if-is_idle.ensures.0 refl in
    let written = ((c.get_mut.follows.holds lock).3 (subst IsSome c.in-Some.ensures.value refl)).0 in
    subst (λ before. Releases before c.remove.new.self.entries c.args.flow.0 c.args.key) c.self.view_is
    (releases_is c.self.inside.locks.entries c.remove.new.self.entries c.args.flow.0 c.args.key (Some c.in-Some.lock.now) None
    (changed_twice c.self.inside.locks.entries (c.get_mut.follows.lender lock).entries c.remove.new.self.entries c.args.key (Some lock) None written c.remove.ensures.updates.0)
    (sym (c.in-Some.ensures.value ∙ found_is c.self.inside.locks.entries c.args.key))
    (sym (idle_holding lock idle) ∙ c.release.ensures.holders) (sym (idle_line lock idle) ∙ c.release.ensures.line))

pub returns-else-is_idle : goal.returns-else-is_idle
returns-else-is_idle c =
    let lock = c.release.new.self in
    let written = ((c.get_mut.follows.holds lock).3 (subst IsSome c.in-Some.ensures.value refl)).0 in
    subst (λ before. Releases before (c.get_mut.follows.lender lock).entries c.args.flow.0 c.args.key) c.self.view_is
    (releases_is c.self.inside.locks.entries (c.get_mut.follows.lender lock).entries c.args.flow.0 c.args.key (Some c.in-Some.lock.now) (Some lock)
    (changed_is c.self.inside.locks.entries (c.get_mut.follows.lender lock).entries c.args.key (Some lock) written)
    (sym (c.in-Some.ensures.value ∙ found_is c.self.inside.locks.entries c.args.key))
    c.release.ensures.holders c.release.ensures.line)

pub invariant_of-self-then-is_idle : goal.invariant_of-self-then-is_idle
invariant_of-self-then-is_idle c =
    let locks = c.self.inside.locks.entries in
    let lock = c.release.new.self in
    let written = ((c.get_mut.follows.holds lock).3 (subst IsSome c.in-Some.ensures.value refl)).0 in
    in_use_after locks c.remove.new.self.entries c.args.key None
    (changed_twice locks (c.get_mut.follows.lender lock).entries c.remove.new.self.entries c.args.key (Some lock) None written c.remove.ensures.updates.0)
    c.self.invariant (none-some idle)

pub invariant_of-self-else-is_idle : goal.invariant_of-self-else-is_idle
invariant_of-self-else-is_idle c =
    let locks = c.self.inside.locks.entries in
    let lock = c.release.new.self in
    let written = ((c.get_mut.follows.holds lock).3 (subst IsSome c.in-Some.ensures.value refl)).0 in
    in_use_after locks (c.get_mut.follows.lender lock).entries c.args.key (Some lock)
    (changed_is locks (c.get_mut.follows.lender lock).entries c.args.key (Some lock) written) c.self.invariant
    (λ same. false≢true (c.if-is_idle.ensures.1 (same_Some lock idle same)))
