use Rattle.rt_script.proofs.Scheduled.{follows_are_scheduled}
use Rattle.rt_script.proofs.laws.follows_are_scheduled.Goals as goal

pub returns : goal.returns
returns c = follows_are_scheduled
