use Rattle.call_trials.proofs.Lines.{stood_follows}
use Rattle.call_trials.proofs.tests.tables.must_take.Goals as goal

pub returns : goal.returns
returns g c = stood_follows c.in_ok-taken.taken c.args.table.now c.try_take.new.self c.args.stood.now c.args.step.0.0
    c.args.step.1 c.args.step.2 c.requires c.in_ok-taken.ensures.change
