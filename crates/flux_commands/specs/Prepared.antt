-- What was prepared: what a command prints, all of which is made before any of it is written.
use Rattle.std.specs.Prelude.{ℕ, List, Result, Ok, Err}
use Rattle.flux_cli.specs.Commands.{Command, Spells}
use Rattle.flux_commands.specs.declared.refusals.Refusal.{Refusal}
use Rattle.flux_commands.specs.declared.statuses.Status.{Status}
use Rattle.flux_commands.specs.declared.statuses.Status.TheVariants as statuses
use Rattle.flux_commands.specs.declared.prepared.Prepared.{Prepared}
use Rattle.flux_commands.specs.declared.prepared.Prepared.TheVariants as prepared_
use Rattle.flux_commands.specs.Told.{Told}
use Rattle.flux_commands.specs.Answers.{Libraries, Prints, Refutes}
use Rattle.flux_commands.specs.Refusals.{status_of}

-- the status of what was prepared
abbrev pub status_with : Prepared → Status
status_with (prepared_.Text text) = statuses.Done
status_with (prepared_.No text) = statuses.No

-- the status of what was prepared, or of the refusal
abbrev pub prepared_status : Result Prepared Refusal → Status
prepared_status (Ok prepared) = status_with prepared
prepared_status (Err refusal) = status_of refusal

-- what was prepared is what a command prints, with its documents
abbrev pub PreparesAll : Libraries → Command → Told → Prepared → Type 0
PreparesAll library command told (prepared_.Text text) = Prints library command told text
PreparesAll library command told (prepared_.No text) = Refutes library command told text

-- a command that the words spell prints it
abbrev pub PreparesWords : Libraries → List (List ℕ) → Told → Prepared → Type 0
PreparesWords library words told prepared =
    (command : Command) × Spells words command × PreparesAll library command told prepared
