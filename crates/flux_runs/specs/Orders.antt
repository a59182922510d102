-- The order in which a runtime lets flows go on.
use Rattle.std.specs.Prelude.{List, ⊤}
use Rattle.flow_model.specs.declared.journals.Entry.{Entry}
use Rattle.flow_model.specs.Setup.{Setup}
use Rattle.flux_cli.specs.declared.values.Runtime.{Runtime}
use Rattle.flux_cli.specs.declared.values.Runtime.TheVariants.{Event, EventWithHelpers, Script, PerFlow, Pool}
use Rattle.flow_orders.specs.Round.{IsRound}
use Rattle.flow_orders.specs.Follow.{IsFollow}

-- a journal goes on in the order of the runtime that the words name: flow after flow, each up to its first call, its wait
-- or its end; or as the script's numbers say; or, where threads let the flows go on, or run their calls, any order
abbrev pub IsOrderOf : Runtime → Setup → List Entry → List Entry → Type 0
IsOrderOf Event setup old new = IsRound setup old new
IsOrderOf (EventWithHelpers helpers) setup old new = ⊤
IsOrderOf (Script numbers) setup old new = IsFollow setup old numbers new
IsOrderOf PerFlow setup old new = ⊤
IsOrderOf (Pool workers) setup old new = ⊤
