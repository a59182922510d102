-- That the texts of `load` have no fault, and so what `load` answers.
use Rattle.std.specs.Prelude.{◌≡◌, ◌≢◌, ◌≤◌, ◌⊎◌, ℕ, List}
use Rattle.flux_outside.specs.Causes.{Rose}
use Rattle.flux_cli.specs.declared.loads.TheConstants.{LOAD_LIMIT}
use Rattle.flux_cli.specs.declared.values.Runtime.{Runtime}
use Rattle.flux_cli.specs.Commands.{load, Spells}
use Rattle.flux_commands.specs.declared.statuses.Status.{Status}
use Rattle.flux_commands.specs.declared.statuses.Status.TheVariants as statuses
use Rattle.flux_commands.specs.Told.{Told}
use Rattle.flux_driver.specs.Seen.{Seen}
use Rattle.flux_commands.specs.BuiltIn.{built_in}
use Rattle.flux_commands.specs.Answers.{OrMemory}
use Rattle.flux_driver.specs.Top.{HasDone}
use Rattle.flux_headline.specs.Headline.{NoneRose}
use Rattle.flux_headline.specs.Loads.{IsLoadable}

-- with the library that the program is built with, the texts of a load of at most 4,096 items have
-- no fault, whatever the world tells and whichever the first number
abbrev pub LoadsAreLoadable : Type 0
LoadsAreLoadable = (told : Told) (count first : ℕ)
    → count ≤ LOAD_LIMIT → IsLoadable built_in told count first

-- the status is 0, or it is 6 and the count of `out` rose
abbrev pub IsDoneOrUnwritten : Seen → Status → Seen → Type 0
IsDoneOrUnwritten before status after = (status ≡ statuses.Done)
    ⊎ ((status ≡ statuses.Write)
    × (let own = before.out in let later = after.out in Rose own.faults later.faults))

-- so `load` ends with status 0, or with 6 where writing failed, unless memory was short
abbrev pub LoadsEndSo : Type 0
LoadsEndSo = (words : List (List ℕ)) (before after : Seen) (status : Status)
    (count first : ℕ) (runtime : Runtime)
    → Spells words (load count first runtime) → HasDone built_in words before status after
    → OrMemory status (IsDoneOrUnwritten before status after)

-- where no count rose, it has answered 0, unless memory was short
abbrev pub LoadsAreDone : Type 0
LoadsAreDone = (words : List (List ℕ)) (before after : Seen) (status : Status)
    (count first : ℕ) (runtime : Runtime)
    → Spells words (load count first runtime) → NoneRose before after
    → HasDone built_in words before status after → OrMemory status (status ≡ statuses.Done)

-- and it never answers that its program or one of its items has a fault
abbrev pub NoLoadHasFault : Type 0
NoLoadHasFault = (words : List (List ℕ)) (before after : Seen) (status : Status)
    (count first : ℕ) (runtime : Runtime)
    → Spells words (load count first runtime) → HasDone built_in words before status after
    → (status ≢ statuses.Static) × (status ≢ statuses.Items)
