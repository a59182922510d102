-- The lowest flow that can go on makes its next event, again and again, until none is live.
use Rattle.std.specs.Prelude.{◌≤◌, List, ◌++◌, length}
use Rattle.std.specs.List.{AllByRecursion}
use Rattle.flow_model.specs.declared.journals.Entry.{Entry}
use Rattle.flow_model.specs.declared.journals.Event.{Event}
use Rattle.flux_model.specs.declared.items.FlowNo.{FlowNo}
use Rattle.flow_model.specs.Setup.{Setup}
use Rattle.flow_model.specs.Legal.{IsWhole}
use Rattle.flux_laws.specs.Growth.{room_of, sum_below, IsNoWait}
use Rattle.flux_laws.specs.Going.{IsLowest}
use Rattle.flow_orders.specs.Schedules.{IsScheduled}

-- the rule: a flow is the lowest that can go on
abbrev pub IsLowestsTurn : Setup → List Entry → List Entry → FlowNo → Event → Type 0
IsLowestsTurn setup old since flow event = IsLowest setup (old ++ since) flow.0

-- a journal goes on by this rule. So it is whole, has no new wait, and has grown by at most the sizes of the sources of
-- the flows that were live
pub record DrainsTo (setup : Setup) (old new : List Entry) : Type 0 where
  pub scheduled : IsScheduled (IsLowestsTurn setup old) setup old new
  pub whole : IsWhole setup new
  pub no_wait : let own = scheduled in AllByRecursion IsNoWait own.more
  pub few : let own = scheduled in length own.more ≤ sum_below (room_of setup old) (length setup.items)
