-- The chosen runtime, and the order in which it lets flows go on.
use Rattle.std.specs.Prelude.{◌≡◌, List, ⊤}
use Rattle.std.proofs.Common.{zero-le}
use Rattle.flow_model.specs.declared.journals.Entry.{Entry}
use Rattle.flow_model.specs.Setup.{Setup}
use Rattle.flux_cli.specs.declared.values.Runtime.{Runtime}
use Rattle.flux_cli.specs.declared.values.Runtime.TheVariants as words
use Rattle.flow_orders.specs.Round.{IsRound}
use Rattle.flow_orders.specs.Follow.{IsFollow}
use Rattle.rt_all.specs.declared.any_runtime.AnyRuntime.{AnyRuntime}
use Rattle.rt_all.specs.declared.any_runtime.AnyRuntime.TheVariants.{Event, Script, PerFlow, Pool}

-- the runtime that the words name
abbrev pub runtime_by : Runtime → AnyRuntime
runtime_by words.Event = Event (record { helpers = 0; few = zero-le })
runtime_by (words.EventWithHelpers helpers) =
    Event (record { helpers = helpers.count; few = helpers.few })
runtime_by (words.Script numbers) = Script (record { numbers = numbers })
runtime_by words.PerFlow = PerFlow (record {})
runtime_by (words.Pool workers) =
    Pool (record { workers = workers.count; some = workers.some; few = workers.few })

-- flow after flow, each up to its first call, its wait or its end; or as the script's numbers say; or, where threads let
-- the flows go on, as an event loop's helpers do, any order
abbrev pub IsOrder : AnyRuntime → Setup → List Entry → List Entry → Type 0
IsOrder (Event runtime) setup old new = runtime.helpers ≡ 0 → IsRound setup old new
IsOrder (Script runtime) setup old new = IsFollow setup old runtime.numbers new
IsOrder (PerFlow runtime) setup old new = ⊤
IsOrder (Pool runtime) setup old new = ⊤

-- the order on one thread: a runtime that would start threads has there that of the event loop
abbrev pub IsOrderAlone : AnyRuntime → Setup → List Entry → List Entry → Type 0
IsOrderAlone (Event runtime) setup old new = IsRound setup old new
IsOrderAlone (Script runtime) setup old new = IsFollow setup old runtime.numbers new
IsOrderAlone (PerFlow runtime) setup old new = IsRound setup old new
IsOrderAlone (Pool runtime) setup old new = IsRound setup old new
