-- Calls of a core that is driven.
use Rattle.std.specs.Prelude.{◌≡◌, List, Some}
use Rattle.flow_model.specs.declared.journals.CallMade.{CallMade}
use Rattle.flow_model.specs.declared.journals.Entry.{Entry}
use Rattle.flow_model.specs.declared.journals.Event.TheVariants.{Call}
use Rattle.flux_model.specs.declared.items.FlowNo.{FlowNo}
use Rattle.flow_model.specs.Setup.{Setup}
use Rattle.flow_core.specs.States.{CoreState, JobState, begun_by}
use Rattle.flow_orders.specs.Turns.{MakesMove}

-- a job is a flow's begun call
pub record IsJobOf {L : Type 0} (core : CoreState L) (job : JobState L) : Type 0 where
  pub begun : begun_by core (let flow = job.flow in flow.0) ≡ Some job.inputs
  pub program_ : job.program ≡ (let setup = core.setup in setup.program)
  pub library_ : job.library ≡ (let setup = core.setup in setup.library)

-- a flow's call is its move
abbrev pub MakesCall : Setup → List Entry → FlowNo → List Entry → Type 0
MakesCall setup before flow after = (made : CallMade) × MakesMove setup before flow (Call made) after
