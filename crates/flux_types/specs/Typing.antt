-- What the calls answer.
use Rattle.std.specs.Prelude.{◌≡◌, List, None}
use Rattle.flux_values.specs.Meanings.{LibraryMeaning}
use Rattle.flux_model.specs.declared.signatures.NodeSig.{NodeSig}
use Rattle.flux_syntax.specs.declared.declarations.Decl.{Decl}
use Rattle.flux_syntax.specs.Least.{first_fault}
use Rattle.flux_types.specs.Signatures.{AreSigs}
use Rattle.flux_types.specs.Rows.{sig_rows}

-- none of the rows 16 to 20 applies, and these are the signatures of the declarations' nodes
pub record AreTyped (meaning : LibraryMeaning) (decls : List Decl) (sigs : List NodeSig)
    : Type 0 where
  pub sound : first_fault (sig_rows meaning decls) ≡ None
  pub are : AreSigs meaning.kind decls sigs
