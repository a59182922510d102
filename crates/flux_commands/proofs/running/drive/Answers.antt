use Rattle.std.proofs.Common.{List, sym, subst}
use Rattle.flow_model.specs.declared.journals.Entry.{Entry}
use Rattle.flow_core.specs.States.{setup_in}
use Rattle.flux_cells.specs.Kept.{cells_of}
use Rattle.flux_commands.specs.BuiltIn.{meaning_in}
use Rattle.flux_commands.specs.Driving.{IsDriven, DrivesTo}
use Rattle.flux_commands.proofs.Runs.{cells_driven}
use Rattle.flux_commands.proofs.running.drive.Goals as goal

pub returns-in-Ok-clause-driven : goal.returns-in-Ok-clause-driven
returns-in-Ok-clause-driven g c =
    let driven : DrivesTo meaning_in c.args.runtime c.args.core c.in-Ok.core =
    rw c.in-Ok.is at (c.requires.drives.drives c.args.core c.args.runtime c.driver.result c.requires.empty c.driver.ensures) in
    subst (λ (entries : List Entry). IsDriven (setup_in meaning_in c.args.core) c.args.runtime entries)
    (sym c.into_parts.ensures.journal) driven.driven

pub returns-in-Ok-clause-cells : goal.returns-in-Ok-clause-cells
returns-in-Ok-clause-cells g c =
    let driven = rw c.in-Ok.is at (c.requires.drives.drives c.args.core c.args.runtime c.driver.result c.requires.empty c.driver.ensures) in
    cells_driven c.args.runtime c.args.core c.in-Ok.core c.into_parts.result.0 (cells_of c.into_parts.result.1) driven c.into_parts.ensures.journal c.into_parts.ensures.cells
