-- Runs of items on simulated processors.
use Rattle.std.specs.Prelude.{ℕ, List}
use Rattle.flux_values.specs.Meanings.{LibraryMeaning}
use Rattle.flux_cli.specs.Forms.{Simulating}
use Rattle.flux_runs.specs.Simulations.{IsSimulationText}
use Rattle.flux_commands.specs.Told.{Files}
use Rattle.flux_commands.specs.Origins.{Origin}
use Rattle.flux_commands.specs.Inputs.{GivesItems}
use Rattle.flux_commands.specs.Audited.{setup_given}

-- the text is what is printed of a run of the items of the one text, through the program of the other, on so many
-- simulated processors
pub record IsSimulated (meaning : LibraryMeaning) (told : Files) (program items : Origin) (simulating : Simulating)
    (text : List ℕ) : Type 0 where
  pub given : GivesItems meaning told program items
  pub printed : IsSimulationText (setup_given given) simulating.costs simulating.processors text
