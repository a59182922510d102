-- What is known of a text that was checked, and of one that was refused.
use Rattle.std.specs.Prelude.{◌≡◌, ◌≤◌, ◌<◌, ℕ, List, length, ⊤}
use Rattle.flux_values.specs.Meanings.{LibraryMeaning}
use Rattle.flux_faults.specs.declared.faults.StaticFault.{StaticFault}
use Rattle.flux_faults.specs.declared.faults.CheckFault.{CheckFault}
use Rattle.flux_faults.specs.declared.faults.CheckFault.TheVariants.{Static, Memory}
use Rattle.flux_model.specs.declared.programs.Program.{Program}
use Rattle.flux_model.specs.declared.programs.NodeNo.{NodeNo}
use Rattle.flux_model.specs.declared.programs.Hold.{Hold}
use Rattle.flux_model.specs.declared.signatures.NodeSig.{NodeSig}
use Rattle.flux_model.specs.Soundness.{IsSound}
use Rattle.flux_model.specs.Kinds.{kinds_at}
use Rattle.flux_syntax.specs.declared.declarations.Decl.{Decl}
use Rattle.flux_syntax.specs.Declares.{Declares}
use Rattle.flux_syntax.specs.ProgramOfText.{program_of}
use Rattle.flux_types.specs.Signatures.{AreSigs}
use Rattle.flux_hoist.specs.Keeping.{Keeps}
use Rattle.flux_check.specs.Judgement.{AreSound, IsTextFault}

-- the text is sound
pub record IsSoundText (meaning : LibraryMeaning) (text : List ℕ) : Type 0 where
  pub decls : List Decl
  pub declared : Declares decls text
  pub sound : AreSound meaning decls

-- what was checked is that of sound declarations: their program, its signatures, and what a checked program keeps; the
-- program is sound for the library
pub record AreChecked (meaning : LibraryMeaning) (decls : List Decl) (program : Program) (sigs : List NodeSig)
    (order : List NodeNo) (sets : List (List Hold)) (sizes : List ℕ) : Type 0 where
  pub sound : AreSound meaning decls
  pub is : program ≡ program_of decls
  pub sigs_ : AreSigs meaning.kind decls sigs
  pub keeps : Keeps program sigs order sets sizes
  pub for_library : IsSound meaning program (kinds_at sigs)

-- it is that of the text
pub record IsChecked (meaning : LibraryMeaning) (text : List ℕ) (program : Program) (sigs : List NodeSig)
    (order : List NodeNo) (sets : List (List Hold)) (sizes : List ℕ) : Type 0 where
  pub decls : List Decl
  pub declared : Declares decls text
  pub checked : AreChecked meaning decls program sigs order sets sizes

-- a refusal is of a fault of the text, at a place in it or at its end
abbrev pub IsRefusalOf : LibraryMeaning → List ℕ → CheckFault → Type 0
IsRefusalOf meaning text (Static fault) =
    IsTextFault meaning text fault × (fault.at ≤ length text) × (fault.at < 4294967295)
IsRefusalOf meaning text Memory = ⊤

-- a refusal is this fault, at its place, or there was no memory
abbrev pub IsThatFault : StaticFault → CheckFault → Type 0
IsThatFault fault (Static own) = (own.kind ≡ fault.kind) × (own.at ≡ fault.at)
IsThatFault fault Memory = ⊤
