-- What is written of a refusal.
use Rattle.std.proofs.Common.{◌≡◌, inl, refl, sym, subst}
use Rattle.flux_commands.specs.declared.statuses.Status.TheVariants as statuses
use Rattle.flux_commands.specs.declared.refusals.Refusal.{Refusal}
use Rattle.flux_commands.specs.declared.refusals.Refusal.TheVariants.{Read}
use Rattle.flux_outside.specs.Streams.{Stream, WroteOrBroke}
use Rattle.flux_commands.specs.Causes.{read_line}
use Rattle.flux_driver.specs.steps.Telling.{IsTold}

pub told_read : (refusal : Refusal) (before after : Stream) → refusal ≡ Read → WroteOrBroke before after read_line → IsTold refusal statuses.Read before after
told_read refusal before after is said = subst (λ (r : Refusal). IsTold r statuses.Read before after) (sym is) (record { read = λ e. refl; said = inl (refl, said) })
