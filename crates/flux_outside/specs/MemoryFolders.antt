-- What a folder in memory holds, and when its calls fail.
use Rattle.std.specs.Prelude.{◌≡◌, ℕ, if◌then◌else◌, List, drop, Option, Some, None}
use Rattle.std.specs.Str.{bytes_eq}
use Rattle.flux_outside.specs.Calls.{no_calls, one_more, IsToFail}
use Rattle.flux_outside.specs.declared.memory.FileBytes.{FileBytes}
use Rattle.flux_outside.specs.declared.memory_folders.MemoryFolder.{MemoryFolder}

-- its one folder, with its documents
abbrev pub folder_docs : MemoryFolder → List ℕ → Option (List FileBytes)
folder_docs folder name = if bytes_eq folder.dir name then Some folder.docs else None

-- what is left, what it was asked for, and its count of faults
abbrev pub folder_left : MemoryFolder → List FileBytes
folder_left folder = drop folder.next folder.docs

abbrev pub folder_asked : MemoryFolder → List (List ℕ)
folder_asked folder = folder.asked.names

abbrev pub folder_faults : MemoryFolder → ℕ
folder_faults folder = folder.faults

-- a new folder has these failing calls, and was not called yet
abbrev pub IsNewFolder : MemoryFolder → List ℕ → Type 0
IsNewFolder folder fails = folder.calls ≡ no_calls fails

-- one call on
abbrev pub FolderWasCalled : MemoryFolder → MemoryFolder → Type 0
FolderWasCalled before after = after.calls ≡ one_more before.calls

-- its next call is to fail
abbrev pub FolderIsToFail : MemoryFolder → Type 0
FolderIsToFail folder = IsToFail folder.calls
