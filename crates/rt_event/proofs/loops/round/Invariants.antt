use Rattle.std.proofs.Common.{◌-◌, length}
use Rattle.flow_core.specs.States.{setup_in}
use Rattle.flow_core.specs.Runs.{SameSetting}
use Rattle.rt_event.specs.steps.Owners.{Stays}
use Rattle.flow_waits.proofs.Counting.{most_entries}
use Rattle.rt_event.proofs.Rounds.{IsRounding}
use Rattle.rt_event.proofs.loops.round.Given as goal

abbrev pub invariant-loop-candidates : goal.invariant-loop-candidates
invariant-loop-candidates g l =
    let start = setup_in g.L.Meaning.meaning l.fn.core in
    SameSetting l.fn.core l.core × IsRounding start l.fn.core.entries l.core.entries l.from l.on_turn
    × Stays (setup_in g.L.Meaning.meaning l.core) l.core.entries l.candidates l.from l.on_turn

abbrev pub decreases-loop-candidates : goal.decreases-loop-candidates
decreases-loop-candidates g l = most_entries (setup_in g.L.Meaning.meaning l.fn.core) - length l.core.entries
