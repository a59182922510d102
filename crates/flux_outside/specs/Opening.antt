-- Files that were not opened: why, by the kind of std's error, and when that counts as a fault.
use Rattle.std.specs.Prelude.{◌≡◌, ℕ, Result, Ok, Err}
use Rattle.std.specs.declared.io.ErrorKind.{ErrorKind}
use Rattle.std.specs.declared.io.ErrorKind.TheVariants.{NotFound, NotADirectory, OutOfMemory}
use Rattle.flux_outside.specs.Causes.{Rose}
use Rattle.flux_outside.specs.declared.faults.StoreFault.{StoreFault}
use Rattle.flux_outside.specs.declared.faults.StoreFault.TheVariants as faults
use Rattle.flux_outside.specs.declared.stores.File.{File}
use Rattle.flux_outside.specs.declared.stores.File.TheVariants as files
use Rattle.flux_outside.specs.declared.system.NotOpened.{NotOpened}
use Rattle.flux_outside.specs.declared.system.NotOpened.TheVariants.{Missing, Memory, Failed}

-- there is no such file, nor one below a file; there was no memory; every other error is a failure
abbrev pub why_not : ErrorKind → NotOpened
why_not NotFound = Missing
why_not NotADirectory = Missing
why_not OutOfMemory = Memory
why_not _ = Failed

-- what a store answers then
abbrev pub answer_for : NotOpened → Result File StoreFault
answer_for Missing = Ok files.Missing
answer_for Memory = Err faults.Memory
answer_for Failed = Err faults.Failed

-- the count of faults rose where the system failed, and else is as before
abbrev pub CountsReason : ℕ → ℕ → NotOpened → Type 0
CountsReason before now Missing = now ≡ before
CountsReason before now Memory = now ≡ before
CountsReason before now Failed = Rose before now

abbrev pub CountsOpening : {T : Type 0} → ℕ → ℕ → Result T NotOpened → Type 0
CountsOpening before now (Ok file) = now ≡ before
CountsOpening before now (Err reason) = CountsReason before now reason
