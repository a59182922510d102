use Rattle.std.specs.Prelude.{◌≡◌, ◌+◌, length}
use Rattle.flow_turns.specs.Turns.{AddsOwn}
use Rattle.flow_turns.proofs.turns.step_on.Given as goal

abbrev pub invariant-loop-event : goal.invariant-loop-event
invariant-loop-event g l = AddsOwn l.fn.core l.core l.flow × (l.core.begun ≡ l.fn.core.begun)
    × (l.core.halted ≡ l.fn.core.halted) × (length l.core.entries ≡ length l.fn.core.entries + l.event)
