-- When the replies of a batch are written.
use Rattle.std.specs.Prelude.{◌≡◌, ℕ, List, [], ◌∷◌}
use Rattle.flux_cli.specs.declared.values.TheConstants.{WORKER_LIMIT}
use Rattle.flux_cli.specs.declared.replies.Replying.{Replying}
use Rattle.flux_cli.specs.declared.replies.Replying.TheVariants.{AtEnd, AtOnce}
use Rattle.flux_cli.specs.Values.{SpellsNumber, IsRuntime}

-- the number of workers of `--at-once`, once, from 1 to 16
abbrev pub IsAtOnce : List (List ℕ) → ℕ → Type 0
IsAtOnce [] workers = ⊥
IsAtOnce (value ∷ []) workers = SpellsNumber 1 WORKER_LIMIT value workers
IsAtOnce (value ∷ other ∷ values) workers = ⊥

-- at the end of the batch, by the runtime of `--runtime`; or at once, by the workers of `--at-once`; never both options
abbrev pub IsReplying : List (List ℕ) → List (List ℕ) → Replying → Type 0
IsReplying runtimes at_once (AtEnd runtime) = (at_once ≡ []) × IsRuntime runtimes runtime
IsReplying runtimes at_once (AtOnce workers) = (runtimes ≡ []) × IsAtOnce at_once workers.count
