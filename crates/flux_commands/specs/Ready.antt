-- What is asked to be served, and a program that is ready for it.
use Rattle.std.specs.Prelude.{◌≡◌, List, [], Result, Ok, Err, option_copied}
use Rattle.flux_values.specs.Meanings.{LibraryMeaning}
use Rattle.flux_syntax.specs.declared.declarations.Decl.{Decl}
use Rattle.flux_syntax.specs.ProgramOfText.{program_of}
use Rattle.flux_model.specs.Kinds.{kinds_at}
use Rattle.flux_model.specs.Soundness.{IsSound}
use Rattle.flux_hoist.specs.declared.checked.Checked.{Checked}
use Rattle.flux_doors.specs.declared.framing.Framing.{Framing}
use Rattle.flux_sources.specs.Sources.{IsServed}
use Rattle.flux_cli.specs.Commands.{Command, serve}
use Rattle.flux_commands.specs.declared.services.Service.{Service}
use Rattle.flux_commands.specs.Told.{Files}
use Rattle.flux_commands.specs.declared.prepared.Prepared.{Prepared}
use Rattle.flux_commands.specs.declared.prepared.Prepared.TheVariants.{Text}
use Rattle.flux_commands.specs.declared.refusals.Refusal.{Refusal}
use Rattle.flux_commands.specs.Origins.{Origin}
use Rattle.flux_commands.specs.Inputs.{HasProgram}

-- the command that is asked for
abbrev pub command_of : Service → Command
command_of service = serve service.file.now (record {
  port = service.port;
  batches = service.batches;
  docs = option_copied service.docs;
  replying = service.replying;
})

-- a checked program is that of the file, sound for the library, and its links are read so
pub record IsReady (meaning : LibraryMeaning) (told : Files) (program : Origin) (checked : Checked) (framing : Framing)
    : Type 0 where
  pub decls : List Decl
  pub has : HasProgram meaning told program decls
  pub is : checked.program ≡ program_of decls
  pub sound : IsSound meaning checked.program (kinds_at checked.sigs.nodes)
  pub source : IsServed meaning checked.program framing

-- in place of what is ready comes an empty text that is to be printed
abbrev pub as_text : {T : Type 0} → Result T Refusal → Result Prepared Refusal
as_text (Ok ready) = Ok (Text [])
as_text (Err refusal) = Err refusal
