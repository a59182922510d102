-- The program's text of a load is sound, whatever documents the library has.
use Rattle.flux_library.specs.Documents.{DocMap}
use Rattle.flux_syntax.specs.Declares.{Declares}
use Rattle.flux_check.specs.Judgement.{AreSound}
use Rattle.flux_load.specs.Loads.{program_text}
use Rattle.flux_commands.specs.BuiltIn.{built_in}
use Rattle.flux_headline.specs.LoadDeclarations.{program_decls}

-- the program's text declares these, and they are sound
pub record IsProgramSound : Type 0 where
  pub declared : Declares program_decls program_text
  pub sound : (docs : DocMap) → AreSound (built_in docs) program_decls
