-- Small steps of reasoning on what is seen.
use Rattle.std.proofs.Common.{◌≡◌}
use Rattle.flux_commands.specs.Told.{Files, Folders, Told}

-- what is reported of both is as before where each is
pub told_same : (files files_after : Files) (folders folders_after : Folders) → files_after ≡ files → folders_after ≡ folders → ◌≡◌ {A = Told} (record { files = files_after; folders = folders_after }) (record { files = files; folders = folders })
told_same files files_after folders folders_after first second = λ i. record { files = first i; folders = second i }
