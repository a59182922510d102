-- The law of scripts.
use Rattle.std.specs.Prelude.{List}
use Rattle.flow_model.specs.declared.journals.Entry.{Entry}
use Rattle.flux_model.specs.declared.items.FlowNo.{FlowNo}
use Rattle.flow_model.specs.Setup.{Setup}
use Rattle.flow_orders.specs.Schedules.{IsScheduled}
use Rattle.flow_orders.specs.Follow.{IsFollow, IsListedTurn}

-- the journal of a script goes on by this rule
abbrev pub FollowsAreScheduled : Type 0
FollowsAreScheduled = (setup : Setup) (old : List Entry) (numbers : List FlowNo) (new : List Entry)
    → IsFollow setup old numbers new → IsScheduled (IsListedTurn setup old numbers) setup old new
