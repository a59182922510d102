use Rattle.std.proofs.Common.{◌≡◌, ◌∙◌, sym, ap, subst, refl, IsSome, Some, None}
use Rattle.std.proofs.lemmas.Result.{on_ok_weaker, on_err_weaker}
use Rattle.flow_waits.specs.steps.Waking.{IsMoreAt, parked_at}
use Rattle.flow_waits.proofs.Keyed.{changed_is, parked_is, more_at, unchanged}
use Rattle.flow_waits.proofs.parked_flows.ParkedFlows.add.Goals as goal

pub returns-in-Some-clause-ok : goal.returns-in-Some-clause-ok
returns-in-Some-clause-ok c =
    let after = c.add.new.self in
    let parks = c.self.inside.flows.entries in
    on_ok_weaker c.add.result (λ more.
    let changed = changed_is parks (c.get_mut.follows.lender after).entries c.args.key after
    ((c.get_mut.follows.holds after).3 (subst IsSome c.in-Some.ensures.value refl)).0 in
    subst (λ before. IsMoreAt before (c.get_mut.follows.lender after).entries c.args.key c.args.flow) c.self.view_is
    (more_at parks (c.get_mut.follows.lender after).entries c.args.key c.args.flow c.in-Some.flows.now after changed
    (parked_is parks c.args.key (Some c.in-Some.flows.now) c.in-Some.ensures.value) more)) c.add.ensures.ok

pub returns-in-Some-clause-err : goal.returns-in-Some-clause-err
returns-in-Some-clause-err c =
    on_err_weaker c.add.result (λ same. unchanged c.self.inside.flows.entries _ c.args.key c.in-Some.flows.now
    c.add.new.self (c.get_mut.follows.holds c.add.new.self).0 c.in-Some.ensures.value same ∙ c.self.view_is)
    c.add.ensures.err

pub returns-in_ok-insert-in-None-clause-ok : goal.returns-in_ok-insert-in-None-clause-ok
returns-in_ok-insert-in-None-clause-ok c =
    let before = c.get_mut.follows.lender-at-none.entries in
    let same : before ≡ c.args.self.now = ap (λ m. m.entries) c.get_mut.follows.holds-at-none ∙ c.self.view_is in
    subst (λ parks. IsMoreAt parks c.insert.new.self.entries c.args.key c.args.flow) same
    (more_at before c.insert.new.self.entries c.args.key c.args.flow c.new-flows.result c.add-in-None.new.self
    (changed_is before c.insert.new.self.entries c.args.key c.add-in-None.new.self
    c.in_ok-insert-in-None.ensures.updates.0) (ap (λ m. parked_at m.entries c.args.key)
    c.get_mut.follows.holds-at-none ∙ parked_is c.self.inside.flows.entries c.args.key None c.in-None.ensures.value
    ∙ sym c.new-flows.ensures) c.in_ok-add-in-None.ensures.ok)
