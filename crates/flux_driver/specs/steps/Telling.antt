-- Steps of a command: what is written at the end.
use Rattle.std.specs.Prelude.{◌≡◌, ◌⊎◌, List, ℕ, []}
use Rattle.flux_commands.specs.declared.prepared.Prepared.{Prepared}
use Rattle.flux_commands.specs.declared.prepared.Prepared.TheVariants.{Text, No}
use Rattle.flux_commands.specs.declared.statuses.Status.{Status}
use Rattle.flux_commands.specs.declared.statuses.Status.TheVariants as statuses
use Rattle.flux_commands.specs.declared.refusals.Refusal.{Refusal}
use Rattle.flux_commands.specs.declared.refusals.Refusal.TheVariants.{Read}
use Rattle.flux_outside.specs.Streams.{Stream, Wrote, Broke, WroteOrBroke}
use Rattle.flux_commands.specs.Causes.{write_line}
use Rattle.flux_commands.specs.Refusals.{status_of, line_of}

-- a refusal's line was written; or there was no memory for it, which can't be where reading failed
pub record IsTold (refusal : Refusal) (status : Status) (before after : Stream) : Type 0 where
  pub read : refusal ≡ Read → status ≡ statuses.Read
  pub said : ((status ≡ status_of refusal) × WroteOrBroke before after (line_of refusal))
      ⊎ ((status ≡ statuses.Memory) × Wrote before after [])

-- a text was printed; or writing failed, and that was said
abbrev pub IsWritten : List ℕ → Status → Stream → Stream → Stream → Stream → Type 0
IsWritten text status out out_after err err_after =
    ((status ≡ statuses.Done) × Wrote out out_after text × Wrote err err_after [])
    ⊎ ((status ≡ statuses.Write) × Broke out out_after text × WroteOrBroke err err_after write_line)

-- a verdict that is no stays so where writing it failed
abbrev pub IsNoWritten : List ℕ → Status → Stream → Stream → Stream → Stream → Type 0
IsNoWritten text status out out_after err err_after =
    (status ≡ statuses.No) × WroteOrBroke out out_after text × Wrote err err_after []

abbrev pub IsPut : Prepared → Status → Stream → Stream → Stream → Stream → Type 0
IsPut (Text text) status out out_after err err_after =
    IsWritten text status out out_after err err_after
IsPut (No text) status out out_after err err_after =
    IsNoWritten text status out out_after err err_after
