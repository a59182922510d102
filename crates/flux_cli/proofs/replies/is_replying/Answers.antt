use Rattle.std.proofs.Common.{ap}
use Rattle.flux_cli.specs.steps.Given.{listed}
use Rattle.flux_cli.proofs.Forms.{none_given}
use Rattle.flux_cli.proofs.WhenReplied.{at_end_says, at_once_says}
use Rattle.flux_cli.proofs.replies.is_replying.Goals as goal

pub returns-in_default : goal.returns-in_default
returns-in_default c =
    at_end_says (listed c.args.runtime) (listed c.args.at_once) c.is_runtime.result (ap listed c.in_default.is) c.is_runtime.ensures

pub returns : goal.returns
returns c = rw c.in-Some.is (at_once_says (listed c.args.runtime) c.in-Some.digits.now c.read_workers.result c.is_some-2.result
    (none_given c.args.runtime c.is_some.result c.is_some.ensures c.if-is_some.false) c.read_workers.ensures c.is_some-2.ensures)
