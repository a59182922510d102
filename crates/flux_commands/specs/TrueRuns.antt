-- True runs, and what is printed of them with status 0.
use Rattle.std.specs.Prelude.{◌≡◌, ℕ, List, [], length}
use Rattle.flux_values.specs.Meanings.{LibraryMeaning}
use Rattle.flux_model.specs.declared.programs.Program.{Program}
use Rattle.flow_model.specs.declared.journals.Entry.{Entry}
use Rattle.flux_model.specs.declared.items.Item.{Item}
use Rattle.flow_model.specs.declared.journals.Journal.{Journal}
use Rattle.flux_model.specs.Locks.{Holds}
use Rattle.flow_model.specs.CellsAfter.{cells_after}
use Rattle.flow_model.specs.Legal.{IsLegal, IsWhole}
use Rattle.flux_syntax.specs.ProgramOfText.{program_of}
use Rattle.flux_runs.specs.Orders.{IsOrderOf}
use Rattle.flux_cli.specs.declared.values.Runtime.{Runtime}
use Rattle.flux_runs.specs.declared.printing.Printing.{Printing}
use Rattle.flux_runs.specs.Setups.{setup_of}
use Rattle.flux_runs.specs.Printed.{printed_by}
use Rattle.flux_commands.specs.Told.{Files}
use Rattle.flux_commands.specs.Origins.{Origin}
use Rattle.flux_commands.specs.Inputs.{GivesItems}

-- The entries are a true run of the items by a runtime:
--   whole           each item's flow is one whole path of its walk, on its own calls' answers;
--   legal.answers   each call has its library node's answer, on the cells as earlier calls left them;
--   legal.excludes  no take and no section overlaps one of another flow in conflict with it;
--   legal.waits     each wait is made where a take is blocked, and nobody overtakes it;
--   legal.free      at no moment do flows wait for each other in a circle;
--   order           the flows went on in the runtime's order.
-- `legal` says too that the locks are the program's.
pub record IsTrueRun (program : Program) (items : List Item) (meaning : LibraryMeaning)
    (runtime : Runtime) (entries : List Entry) : Type 0 where
  pub locks : Holds
  pub legal : IsLegal (setup_of program locks items meaning) entries
  pub whole : IsWhole (setup_of program locks items meaning) entries
  pub order : IsOrderOf runtime (setup_of program locks items meaning) [] entries

-- the text is what is printed of a true run of the items of the one text, through the program of the other, by a
-- runtime
pub record IsRunText (meaning : LibraryMeaning) (told : Files) (program items : Origin)
    (runtime : Runtime) (printing : Printing) (text : List ℕ) : Type 0 where
  pub given : GivesItems meaning told program items
  pub journal : Journal
  pub true_run : let has = given.has in
      IsTrueRun (program_of has.decls) given.its meaning runtime journal.entries
  pub printed : let has = given.has in let p = program_of has.decls in
      text ≡ printed_by printing p (length given.its) journal
      (cells_after (setup_of p true_run.locks given.its meaning) journal.entries)
