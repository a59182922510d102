-- When a call may answer that it failed, and when its count of faults rises.
use Rattle.std.specs.Prelude.{◌≡◌, ℕ, ◌+◌, ◌-◌, ◌^◌, ◌≤◌, min, Result, Ok, Err, OnOk, OnErr}
use Rattle.flux_outside.specs.declared.faults.Failed.{Failed}
use Rattle.flux_outside.specs.declared.faults.StoreFault.{StoreFault}
use Rattle.flux_outside.specs.declared.faults.StoreFault.TheVariants as faults

-- a count of faults with one fault more; it stops at its type's end
abbrev pub one_fault_more : ℕ → ℕ
one_fault_more faults = min (faults + 1) (2 ^ 64 - 1)

-- a count of faults rose, or is at its type's end
abbrev pub Rose : ℕ → ℕ → Type 0
Rose before now = min (before + 1) (2 ^ 64 - 1) ≤ now

-- the count never falls; it rose where the call failed, and where it didn't fail it is as before
pub record HasCause {T : Type 0} (before now : ℕ) (result : Result T Failed) : Type 0 where
  pub later : before ≤ now
  pub failed : OnErr result (Rose before now)
  pub steady : OnOk result (now ≡ before)

-- the count rose where a store failed; want of memory is no fault of the store
abbrev pub CountsFault : ℕ → ℕ → StoreFault → Type 0
CountsFault before now faults.Failed = Rose before now
CountsFault before now faults.Memory = now ≡ before

abbrev pub CountsAnswer : {T : Type 0} → ℕ → ℕ → Result T StoreFault → Type 0
CountsAnswer before now (Ok answer) = now ≡ before
CountsAnswer before now (Err fault) = CountsFault before now fault

-- the same of a store: its count never falls, and rose exactly where the store failed
pub record HasStoreCause {T : Type 0} (before now : ℕ) (result : Result T StoreFault) : Type 0 where
  pub later : before ≤ now
  pub counted : CountsAnswer before now result
