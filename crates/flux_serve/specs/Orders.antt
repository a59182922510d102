-- The order in which the flows of a batch go on.
use Rattle.std.specs.Prelude.{List, [], ⊤}
use Rattle.flow_model.specs.declared.journals.Entry.{Entry}
use Rattle.flow_model.specs.Setup.{Setup}
use Rattle.flow_orders.specs.Round.{IsRound}
use Rattle.flow_orders.specs.Follow.{IsFollow}
use Rattle.flux_serve.specs.declared.orders.BatchOrder.{BatchOrder}
use Rattle.flux_serve.specs.declared.orders.BatchOrder.TheVariants.{Any, Round, Listed}

-- a batch's journal is in an order, from an empty journal on: any; or flow after flow, each up to
-- its first call, its wait or its end; or as the listed flows say
abbrev pub IsInOrder : BatchOrder → Setup → List Entry → Type 0
IsInOrder Any setup entries = ⊤
IsInOrder Round setup entries = IsRound setup [] entries
IsInOrder (Listed numbers) setup entries = IsFollow setup [] numbers entries
