-- What resolving answers.
use Rattle.std.specs.Prelude.{◌≡◌, List, None}
use Rattle.flux_values.specs.Meanings.{LibraryMeaning}
use Rattle.flux_model.specs.declared.named.Named.{Named}
use Rattle.flux_model.specs.Numbered.{IsNumbered}
use Rattle.flux_syntax.specs.declared.declarations.Decl.{Decl}
use Rattle.flux_syntax.specs.Least.{first_fault}
use Rattle.flux_syntax.specs.ProgramOfText.{named_of}
use Rattle.flux_names.specs.Rows.{rows}

-- no row applies, and the program is that of the declarations; it is numbered
pub record IsResolved (meaning : LibraryMeaning) (decls : List Decl) (named : Named) : Type 0 where
  pub sound : first_fault (rows meaning decls) ≡ None
  pub is : named ≡ named_of decls
  pub numbered : IsNumbered named.program
