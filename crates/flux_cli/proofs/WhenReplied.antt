-- When replies are written: what both options say.
use Rattle.std.proofs.Common.{◌≡◌, ℕ, Bool, List, [], ◌∷◌, true, false, Option, Some, None, sym, subst, ◌∙◌}
use Rattle.std.specs.Prelude.{◌↔◌, IsTrue}
use Rattle.std.specs.Option.{is_some}
use Rattle.flux_cli.specs.declared.values.Runtime.{Runtime}
use Rattle.flux_cli.specs.declared.workers.Workers.{Workers}
use Rattle.flux_cli.specs.declared.replies.Replying.{Replying}
use Rattle.flux_cli.specs.declared.replies.Replying.TheVariants.{AtEnd, AtOnce}
use Rattle.flux_cli.specs.Values.{IsRuntime}
use Rattle.flux_cli.specs.Replies.{IsAtOnce, IsReplying}
use Rattle.flux_cli.specs.steps.Found.{AreWorkersRead}

abbrev Says : List (List ℕ) → List (List ℕ) → Type 0
Says runtimes at_once = (replying : Replying) × IsReplying runtimes at_once replying

-- without `--at-once`, what `--runtime` says
pub at_end_says : (runtimes at_once : List (List ℕ)) (r : Bool) → at_once ≡ []
    → IsTrue r ↔ ((runtime : Runtime) × IsRuntime runtimes runtime) → IsTrue r ↔ Says runtimes at_once
at_end_says runtimes at_once r none told = (
  (λ yes. let found = told.0 yes in (AtEnd found.0, (none, found.1))),
  (λ says. told.1 (by says.0 says.1)),
)
  where
    by : (replying : Replying) → IsReplying runtimes at_once replying → (runtime : Runtime) × IsRuntime runtimes runtime
    by (AtEnd runtime) is = (runtime, is.1)
    by (AtOnce workers) is = absurd (subst (λ (l : List (List ℕ)). IsAtOnce l workers.count) none is.1)

-- with both, nothing
pub both_say_nothing : (runtimes : List (List ℕ)) (digits : List ℕ) → (runtimes ≡ [] → ⊥) → Says runtimes (digits ∷ []) → ⊥
both_say_nothing runtimes digits some says = by says.0 says.1
  where
    by : (replying : Replying) → IsReplying runtimes (digits ∷ []) replying → ⊥
    by (AtEnd runtime) is = let e = is.0 in absurd cc
    by (AtOnce workers) is = some is.0

-- with `--at-once` alone, whether it spells a number of workers
pub at_once_says : (runtimes : List (List ℕ)) (digits : List ℕ) (workers : Option Workers) (r : Bool) → runtimes ≡ []
    → AreWorkersRead digits workers → r ≡ is_some workers → IsTrue r ↔ Says runtimes (digits ∷ [])
at_once_says runtimes digits (Some workers) r none read told = ((λ yes. (AtOnce workers, (none, read))), (λ says. told))
at_once_says runtimes digits None r none read told =
    ((λ yes. absurd (let e : false ≡ true = sym told ∙ yes in cc)), (λ says. absurd (by says.0 says.1)))
  where
    by : (replying : Replying) → IsReplying runtimes (digits ∷ []) replying → ⊥
    by (AtEnd runtime) is = let e = is.0 in absurd cc
    by (AtOnce workers) is = read workers.count is.1
