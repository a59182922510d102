-- Errors that `?` passes on.
use Rattle.std.proofs.Common.{◌≡◌, ℕ, Result, Ok, Err, IfErr, sym, subst}
use Rattle.std.specs.Result.{IsErrAnd}
use Rattle.flux_commands.specs.declared.prepared.Prepared.{Prepared}
use Rattle.flux_commands.specs.declared.refusals.Refusal.{Refusal}
use Rattle.flux_commands.specs.declared.statuses.Status.{Status}
use Rattle.flux_commands.specs.Refusals.{status_of}
use Rattle.flux_commands.specs.steps.Refusals.{CountsRefusal, Counts}
use Rattle.flux_commands.specs.Prepared.{prepared_status}

-- the error that is passed on is the one that came
pub passed : {X E : Type 0} (P : E → Type 0) (own : E) (result : Result X E) → IsErrAnd result (λ e. e ≡ own) → P own → IfErr result P
passed P own (Ok x) is p = absurd is
passed P own (Err e) is p = subst P (sym is) p

-- so is its status
pub passed_status : (P : Status → Type 0) (own : Refusal) (result : Result Prepared Refusal) → IsErrAnd result (λ e. e ≡ own) → P (status_of own) → P (prepared_status result)
passed_status P own (Ok prepared) is p = absurd is
passed_status P own (Err e) is p = subst (λ (r : Refusal). P (status_of r)) (sym is) p

-- so are its counts
pub passed_counts : {X : Type 0} (own : Refusal) (result : Result X Refusal) (before after : ℕ) → IsErrAnd result (λ e. e ≡ own) → CountsRefusal own before after → Counts result before after
passed_counts own (Ok x) before after is counts = absurd is
passed_counts own (Err e) before after is counts = subst (λ (r : Refusal). CountsRefusal r before after) (sym is) counts
