use Rattle.std.proofs.Common.{◌≡◌, ◌∙◌, ap, subst, refl, IsSome, Some, None}
use Rattle.flow_waits.specs.steps.Waking.{IsLessAt, parked_at}
use Rattle.flow_waits.proofs.Keyed.{changed_is, parked_is, less_at, none_less}
use Rattle.flow_waits.proofs.parked_flows.ParkedFlows.remove.Goals as goal

pub returns-in_default : goal.returns-in_default
returns-in_default c =
    let before = c.get_mut.follows.lender-at-none.entries in
    let same : before ≡ c.args.self.now = ap (λ m. m.entries) c.get_mut.follows.holds-at-none ∙ c.self.view_is in
    subst (λ parks. IsLessAt parks before c.args.key c.args.flow) same
    (none_less before c.args.key c.args.flow
    (ap (λ m. parked_at m.entries c.args.key) c.get_mut.follows.holds-at-none ∙ parked_is c.self.inside.flows.entries
    c.args.key None c.in_default.ensures.value))

pub returns : goal.returns
returns c =
    let after = c.remove.new.self in
    let parks = c.self.inside.flows.entries in
    let changed = changed_is parks (c.get_mut.follows.lender after).entries c.args.key after
    ((c.get_mut.follows.holds after).3 (subst IsSome c.in-Some.ensures.value refl)).0 in
    subst (λ before. IsLessAt before (c.get_mut.follows.lender after).entries c.args.key c.args.flow) c.self.view_is
    (less_at parks (c.get_mut.follows.lender after).entries c.args.key c.args.flow c.in-Some.flows.now after changed
    (parked_is parks c.args.key (Some c.in-Some.flows.now) c.in-Some.ensures.value) c.remove.ensures.less)
