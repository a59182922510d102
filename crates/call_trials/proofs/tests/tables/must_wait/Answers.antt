use Rattle.std.proofs.Common.{subst, sym}
use Rattle.call_trials.specs.Stood.{HaveStood}
use Rattle.call_trials.proofs.Lines.{stood_wait}
use Rattle.call_trials.proofs.tests.tables.must_wait.Goals as goal

pub may_wait-requires : goal.may_wait-requires
may_wait-requires g c = subst (HaveStood c.args.table.now) (sym c.deref.ensures.value) c.requires

pub returns : goal.returns
returns g c =
    subst (HaveStood c.wait.new.self) (sym c.in_ok-push.ensures.items)
    (stood_wait c.args.table.now c.wait.new.self c.args.stood.now.items c.args.step.0 c.args.step.1 c.args.step.2
    c.requires c.in_ok-wait.ensures.ok)
