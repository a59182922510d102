use Rattle.std.proofs.Common.{List, sym, subst}
use Rattle.flux_model.specs.declared.programs.Hold.{Hold}
use Rattle.flux_verify.specs.steps.Orders.{OpenAlike}
use Rattle.flux_verify.proofs.Checking.{ok_then}
use Rattle.flux_verify.proofs.Grounding.{none_alike, own_alike}
use Rattle.flux_verify.proofs.checks.own_takes.Goals as goal

pub returns-then-has : goal.returns-then-has
returns-then-has c =
    let segments = c.args.segments.now in let node = c.args.node in
    subst (λ (takes : List Hold). OpenAlike segments node takes) (sym c.new.ensures) (none_alike segments c.args.closed.now node c.requires c.if-has.ensures)

pub returns : goal.returns
returns c = ok_then _ _ c.takes_of.result (own_alike c.args.segments.now c.args.node) c.takes_of.ensures
