-- Legal journals, and whole ones.
use Rattle.std.specs.Prelude.{ℕ, ◌<◌, List, length}
use Rattle.std.specs.List.{AllByRecursion}
use Rattle.flow_model.specs.declared.journals.Entry.{Entry}
use Rattle.flow_model.specs.Setup.{Setup}
use Rattle.flux_model.specs.Locks.{AreLocks}
use Rattle.flow_model.specs.Events.{FollowsWalk, IsWholePath}
use Rattle.flow_model.specs.Answers.{AreAnswersRight}
use Rattle.flow_model.specs.Exclusion.{Excludes}
use Rattle.flow_model.specs.Waits.{WaitsAreRight, IsFreeOfCycles}

-- each entry is of an item's flow; each flow has followed its walk, with the program's locks; each call has its node's
-- answer; conflicting sections never overlap; each wait is right; and no waits form a cycle
pub record IsLegal (setup : Setup) (entries : List Entry) : Type 0 where
  pub locks : AreLocks setup.program setup.locks
  pub flows : AllByRecursion (λ entry. entry.flow.0 < length setup.items) entries
  pub walks : (flow : ℕ) → flow < length setup.items → FollowsWalk setup entries flow
  pub answers : AreAnswersRight setup entries
  pub excludes : Excludes setup entries
  pub waits : WaitsAreRight setup entries
  pub free : IsFreeOfCycles setup entries

-- each item's flow is one whole path of its walk; cited beside `IsLegal`, which says that the locks are the program's
abbrev pub IsWhole : Setup → List Entry → Type 0
IsWhole setup entries = (flow : ℕ) → flow < length setup.items → IsWholePath setup entries flow
