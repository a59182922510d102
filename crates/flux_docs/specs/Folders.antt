-- What is read of a folder: its documents, or why there are none.
use Rattle.std.specs.Prelude.{ℕ, ◌⊎◌, List, Option, Some, None, IfSome, IsNone, ⊤}
use Rattle.flux_library.specs.Documents.{DocMap}
use Rattle.flux_outside.specs.declared.memory.FileBytes.{FileBytes}
use Rattle.flux_docs.specs.declared.faults.DocsFault.{DocsFault}
use Rattle.flux_docs.specs.declared.faults.DocsFault.TheVariants.{Failed, Missing, TooLong, Memory}
use Rattle.flux_docs.specs.Documents.{AreWithin, HasFirst}

-- the documents of folders by their names, in order, where they are reported
abbrev pub Folders : Type 0
Folders = Option (List ℕ → Option (List FileBytes))

-- ---- one folder, if there is one

-- it is there and within the limits, and these are its documents by name
abbrev pub AreDocsOf : Option (List FileBytes) → DocMap → Type 0
AreDocsOf (Some held) docs = AreWithin held × HasFirst docs.named held
AreDocsOf None docs = ⊥

-- it is there and past a limit
abbrev pub IsPast : Option (List FileBytes) → Type 0
IsPast (Some held) = AreWithin held → ⊥
IsPast None = ⊥

-- ---- where folders are reported

-- the folder of this name gives these documents
abbrev pub GivesDocs : Folders → List ℕ → DocMap → Type 0
GivesDocs told dir docs = IfSome told (λ folders. AreDocsOf (folders dir) docs)

-- there is none of this name
abbrev pub IsFolderMissing : Folders → List ℕ → Type 0
IsFolderMissing told dir = IfSome told (λ folders. IsNone (folders dir))

-- there is one, and it is past a limit
abbrev pub IsFolderTooLong : Folders → List ℕ → Type 0
IsFolderTooLong told dir = IfSome told (λ folders. IsPast (folders dir))

-- either
abbrev pub IsFolderLost : Folders → List ℕ → Type 0
IsFolderLost told dir = IsFolderMissing told dir ⊎ IsFolderTooLong told dir

-- why there are no documents; that the folder failed, and that memory was short, may come at any time
abbrev pub IsUnread : Folders → List ℕ → DocsFault → Type 0
IsUnread told dir Missing = IsFolderMissing told dir
IsUnread told dir TooLong = IsFolderTooLong told dir
IsUnread told dir Failed = ⊤
IsUnread told dir Memory = ⊤
