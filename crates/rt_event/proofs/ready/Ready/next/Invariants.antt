use Rattle.std.proofs.Common.{length}
use Rattle.rt_event.proofs.ready.Ready.next.Given as goal

abbrev pub decreases-loop-flow : goal.decreases-loop-flow
decreases-loop-flow g l = length l.self.flows.items
