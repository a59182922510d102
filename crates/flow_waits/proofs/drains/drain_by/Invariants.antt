use Rattle.std.proofs.Common.{◌+◌, ◌-◌, length}
use Rattle.flux_laws.specs.Growth.{room_of, sum_below}
use Rattle.flow_core.specs.States.{setup_in}
use Rattle.flow_core.specs.Runs.{SameSetting}
use Rattle.flow_waits.specs.steps.Covers.{Covers}
use Rattle.flow_waits.proofs.Driving.{IsDraining}
use Rattle.flow_waits.proofs.drains.drain_by.Given as goal

abbrev pub invariant-loop-candidates : goal.invariant-loop-candidates
invariant-loop-candidates g l =
    let start = setup_in g.L.Meaning.meaning l.fn.core in
    SameSetting l.fn.core l.core × IsDraining start l.fn.core.entries l.core.entries
    × Covers (setup_in g.L.Meaning.meaning l.core) l.core.entries l.candidates 0

abbrev pub decreases-loop-candidates : goal.decreases-loop-candidates
decreases-loop-candidates g l =
    let room = room_of (setup_in g.L.Meaning.meaning l.fn.core) l.fn.core.entries in
    length l.fn.core.entries + sum_below room (length l.fn.core.setup.items) - length l.core.entries
