use Rattle.std.proofs.Common.{◌≡◌, List, ℕ, true, false, not, sym, subst, ap, ◌∙◌}
use Rattle.std.specs.List.{list_any}
use Rattle.flux_model.specs.declared.programs.NodeNo.{NodeNo}
use Rattle.flux_model.specs.declared.programs.Hold.{Hold}
use Rattle.flux_plan.specs.Leading.{leads_from, takes_of}
use Rattle.flux_verify.specs.steps.Checks.{lacks}
use Rattle.flux_model.specs.Visits.{with_number}
use Rattle.flux_verify.specs.steps.Orders.{AreKnown, with_takes, with_if, IsGround}
use Rattle.flux_model.proofs.Visiting.{all_known}
use Rattle.flux_verify.proofs.Settling.{known_all}
use Rattle.flux_verify.proofs.Grounding.{ground_more}
use Rattle.flux_verify.proofs.orders.Known.settle.Goals as goal

pub returns-clause-ground : goal.returns-clause-ground
returns-clause-ground c =
    let segments = c.args.segments.now in let own = c.args.self.now in let node = c.args.node.0 in let lacking = c.lacks_any-lacking.result in
    let takes_is : c.in_ok-takes.takes ≡ takes_of segments node = c.in_ok-takes.ensures in
    let known : AreKnown own.straight (leads_from segments node) =
    subst (λ (led : List NodeNo). AreKnown own.straight led) (c.as_slice.ensures ∙ c.in_ok-led.ensures) (all_known own.straight c.as_slice.result.now (sym c.has_all.ensures ∙ c.if-not-has_all.false)) in
    let lacking_is : lacking ≡ list_any (lacks (takes_of segments node)) own.taken =
    c.lacks_any-lacking.ensures ∙ ap (λ (hs : List Hold). list_any (lacks hs) c.as_slice-3.result.now) (c.as_slice-2.ensures ∙ takes_is) ∙ ap (λ (hs : List Hold). list_any (lacks (takes_of segments node)) hs) c.as_slice-3.ensures in
    let taken_is : c.add_takes.new.takes ≡ with_takes own.taken (takes_of segments node) = c.in_ok-add_takes.ensures ∙ ap (λ (hs : List Hold). with_takes own.taken hs) (c.as_slice-4.ensures ∙ takes_is) in
    let ground = ground_more segments own.straight own.taken node own.closed lacking c.requires known lacking_is in
    subst (λ (xs : List ℕ). IsGround segments xs c.add_if.new.visits c.add_takes.new.takes) (sym c.in_ok-add.ensures)
    (subst (λ (xs : List ℕ). IsGround segments (with_number own.straight node) xs c.add_takes.new.takes) (sym c.in_ok-add_if.ensures)
    (subst (λ (hs : List Hold). IsGround segments (with_number own.straight node) (with_if (not lacking) own.closed node) hs) (sym taken_is) ground))

pub returns-then-not-has_all-clause-settled : goal.returns-then-not-has_all-clause-settled
returns-then-not-has_all-clause-settled c known =
    let segments = c.args.segments.now in let own = c.args.self.now in
    let led_is = c.as_slice.ensures ∙ c.in_ok-led.ensures in
    let all = known_all own.straight c.as_slice.result.now (subst (λ (led : List NodeNo). AreKnown own.straight led) (sym led_is) known) in
    let e : true ≡ false = sym all ∙ sym c.has_all.ensures ∙ c.if-not-has_all.true in
    absurd cc
