-- A flow's place in the plan of its source line.
use Rattle.std.specs.Prelude.{◌≡◌, ℕ, List, Some}
use Rattle.std.specs.List.{slice_get}
use Rattle.flux_model.specs.declared.programs.SourceLine.{SourceLine}
use Rattle.flux_model.specs.declared.items.Item.{Item}
use Rattle.flow_model.specs.declared.journals.Entry.{Entry}
use Rattle.flow_model.specs.Setup.{Setup, item_of}
use Rattle.flow_model.specs.Flows.{given_for}
use Rattle.flow_model.specs.Events.{own_events, own_answers}
use Rattle.flux_plan.specs.declared.plans.Plan.{Plan}
use Rattle.flux_plan.specs.Machine.{Position}
use Rattle.flux_plan.specs.Runs.{IsPlanOf}
use Rattle.flux_plan.specs.Moves.{HasReached}

-- a flow has come to a place in a plan of its source line: with the flow's own events in the journal, by its own answers
pub record IsAt (setup : Setup) (plan : Plan) (entries : List Entry) (flow : ℕ) (position : Position) : Type 0 where
  pub item : Item
  pub is_item : item_of setup flow ≡ Some item
  pub line : SourceLine
  pub is_line : slice_get setup.program.sources item.source.0 ≡ Some line
  pub is_plan : IsPlanOf setup.program line.target plan
  pub has : let given = given_for setup item line in
      HasReached plan given.key given.matches item.values (own_answers entries flow)
      (own_events entries flow) position
