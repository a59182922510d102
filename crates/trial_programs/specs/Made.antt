-- What a setup is made of.
use Rattle.std.specs.Prelude.{◌≡◌, List}
use Rattle.std.specs.Arc.{arc_value}
use Rattle.flux_model.specs.declared.programs.Program.{Program}
use Rattle.flux_model.specs.declared.items.Item.{Item}
use Rattle.flux_plan.specs.declared.plans.Plan.{Plan}
use Rattle.flow_state.specs.declared.setups.Setup as code

-- a setup is made of these
pub record IsMadeOf {L : Type 0} (program : Program) (plans : List Plan) (items : List Item) (library : L)
    (setup : code.Setup L) : Type 0 where
  pub program_ : arc_value setup.program ≡ program
  pub plans_ : arc_value setup.plans ≡ plans
  pub items_ : setup.items ≡ items
  pub library_ : arc_value setup.library ≡ library
