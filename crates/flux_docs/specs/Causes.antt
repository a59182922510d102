-- Why documents were not read.
use Rattle.std.specs.Prelude.{◌≡◌, ℕ, ◌≤◌, Result, Ok, Err}
use Rattle.flux_outside.specs.Causes.{Rose}
use Rattle.flux_outside.specs.declared.faults.StoreFault.{StoreFault}
use Rattle.flux_outside.specs.declared.faults.StoreFault.TheVariants as stores
use Rattle.flux_docs.specs.declared.faults.DocsFault.{DocsFault}
use Rattle.flux_docs.specs.declared.faults.DocsFault.TheVariants.{Failed, Missing, TooLong, Memory}

-- the fault of a call that gave no document
abbrev pub fault_of : StoreFault → DocsFault
fault_of stores.Failed = Failed
fault_of stores.Memory = Memory

-- the count of faults rose where the folder failed, and is as before in every other answer
abbrev pub CountsDocs : {T : Type 0} → ℕ → ℕ → Result T DocsFault → Type 0
CountsDocs before now (Ok docs) = now ≡ before
CountsDocs before now (Err Failed) = Rose before now
CountsDocs before now (Err Missing) = now ≡ before
CountsDocs before now (Err TooLong) = now ≡ before
CountsDocs before now (Err Memory) = now ≡ before

-- and it never falls
pub record HasDocsCause {T : Type 0} (before now : ℕ) (result : Result T DocsFault) : Type 0 where
  pub later : before ≤ now
  pub counted : CountsDocs before now result
