-- What is read of answers of std: files that were opened, folders, their entries, and errors.
use Rattle.std.specs.Prelude.{◌≡◌, Bool, true, false, List, ℕ, [], Option, Some, None}
use Rattle.std.specs.declared.io.ErrorKind.{ErrorKind}
use Rattle.std.specs.declared.io.ErrorKind.TheVariants.{NotFound, NotADirectory, OutOfMemory}
use Rattle.std.specs.declared.io.ErrorKind.TheVariants.{Interrupted}
use Rattle.std.specs.declared.fs.attrs.FileType.{FileType}
use Rattle.std.specs.Fs.{IsDir, IsFile}
use Rattle.flux_outside.specs.declared.faults.StoreFault.{StoreFault}
use Rattle.flux_outside.specs.declared.faults.StoreFault.TheVariants as faults
use Rattle.flux_outside.specs.declared.folders.NextDoc.{NextDoc}
use Rattle.flux_outside.specs.declared.folders.NextDoc.TheVariants as docs
use Rattle.flux_outside.specs.declared.stores.File.{File}
use Rattle.flux_outside.specs.declared.stores.File.TheVariants as files
use Rattle.flux_outside.specs.declared.told.Counted.{Counted}
use Rattle.flux_outside.specs.declared.told.Counted.TheVariants as counted
use Rattle.flux_outside.specs.declared.system.EntryKind.{EntryKind}
use Rattle.flux_outside.specs.declared.system.EntryKind.TheVariants as kinds

-- an error says that there is no folder of this name; every other is a failure
abbrev pub folder_for : ErrorKind → Option Bool
folder_for NotFound = Some false
folder_for NotADirectory = Some false
folder_for _ = None

-- there was no memory; every other error is a failure
abbrev pub fault_of : ErrorKind → StoreFault
fault_of OutOfMemory = faults.Memory
fault_of _ = faults.Failed

-- a type of std is that of a file, of a folder, or of neither
abbrev pub IsKindOf : FileType → EntryKind → Type 0
IsKindOf type kinds.File = IsFile type
IsKindOf type kinds.Folder = IsDir type
IsKindOf type kinds.Other = (IsFile type → ⊥) × (IsDir type → ⊥)

-- the document of a name with what was read under it; a document that isn't there any more is a
-- failure
abbrev pub doc_of : List ℕ → File → Option NextDoc
doc_of name (files.Found body) = Some (docs.Doc name body)
doc_of name files.Longer = Some docs.Longer
doc_of name files.Missing = None

-- a read or a write that a signal interrupted did nothing, and is no failure; every other error is
-- one
abbrev pub why_no_count : ErrorKind → Counted
why_no_count Interrupted = counted.Interrupted
why_no_count kind = counted.Failed kind
