use Rattle.std.proofs.Common.{ℕ, ◌<◌}
use Rattle.flow_model.specs.Events.{IsLive}
use Rattle.flux_laws.specs.Going.{IsBlocked}
use Rattle.flow_core.specs.States.{setup_in}
use Rattle.flow_waits.proofs.drains.enabled.Given as goal

abbrev pub invariant-loop-number : goal.invariant-loop-number
invariant-loop-number g l = (flow : ℕ) → flow < l.number
    → IsLive (setup_in g.L.Meaning.meaning l.core) l.core.entries flow
    → IsBlocked (setup_in g.L.Meaning.meaning l.core) l.core.entries flow
