-- What a command reads.
use Rattle.std.specs.Prelude.{◌≡◌, ℕ, List, Option, None, IsSome, ⊤}
use Rattle.flux_load.specs.Loads.{program_text}
use Rattle.flux_cli.specs.Commands.{Command, check, plan, format, run, audit, load, serve, help, simulate, swarm}
use Rattle.flux_commands.specs.Told.{Files}
use Rattle.flux_commands.specs.Origins.{Origin, named, made}

-- the command reads a program from there
abbrev pub ReadsProgram : Command → Origin → Type 0
ReadsProgram (check file) from = from ≡ named file
ReadsProgram (plan file) from = from ≡ named file
ReadsProgram (format file) from = from ≡ named file
ReadsProgram (run file items options) from = from ≡ named file
ReadsProgram (audit file items journal docs) from = from ≡ named file
ReadsProgram (load count first runtime) from = from ≡ made program_text
ReadsProgram (serve file serving) from = from ≡ named file
ReadsProgram help from = ⊥
ReadsProgram (simulate file items simulating) from = from ≡ named file
ReadsProgram (swarm file items journal hash docs) from = from ≡ named file

-- the folder of documents, where one is named
abbrev pub folder_of : Command → Option (List ℕ)
folder_of (run file items options) = options.docs
folder_of (audit file items journal docs) = docs
folder_of (serve file serving) = serving.docs
folder_of (simulate file items simulating) = simulating.docs
folder_of (swarm file items journal hash docs) = docs
folder_of other = None

-- what files hold is reported, where the command reads any
abbrev pub TellsFiles : Files → Command → Type 0
TellsFiles told (load count first runtime) = ⊤
TellsFiles told help = ⊤
TellsFiles told other = IsSome told
