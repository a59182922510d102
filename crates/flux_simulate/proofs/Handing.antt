-- What is handed back when all flows have ended.
use Rattle.std.proofs.Common.{◌≡◌, ◌<◌, ◌≤◌, ℕ, List, [], sym, subst, arith}
use Rattle.flux_values.specs.Meanings.{LibraryMeaning}
use Rattle.flow_model.specs.declared.journals.Entry.{Entry}
use Rattle.flow_model.specs.Setup.{Setup}
use Rattle.flow_core.specs.States.{CoreState, setup_in, IsKept}
use Rattle.flow_core.specs.Runs.{GoesToEnd}
use Rattle.flow_orders.specs.declared.runs.Run.{Run}
use Rattle.flux_simulate.specs.declared.clock.Clock.{Clock}
use Rattle.flow_orders.specs.Ticks.{timed, last_tick}
use Rattle.flow_orders.specs.Runs.{NeverMoreRuns, IsOneRunACall, sum_of_costs}
use Rattle.flow_orders.specs.Rule.{IsByTheRule}
use Rattle.flow_orders.specs.Idle.{NeverIdleForNothing}
use Rattle.flux_simulate.specs.steps.Calls.{AreSmall}
use Rattle.flux_simulate.specs.steps.Ticking.{AllLast, Rests, GoesFurther}
use Rattle.flux_simulate.proofs.Closing.{whole, one-run, by-the-rule, never-more, never-idle, bounded}
use Rattle.flux_simulate.proofs.Further.{further-setup, further-small}
use Rattle.flux_simulate.proofs.Bounds.{costs-small}

module _ {L : Type 0} (meaning : L → LibraryMeaning) (start core done : CoreState L) (clock : Clock)
    (kept : IsKept meaning core) (rests : Rests meaning core clock) (over : clock.running ≡ []) (costs : List ℕ)
    (processors : ℕ) (same : clock.processors ≡ processors) (some : 1 ≤ processors) (last : AllLast costs clock)
    (further : GoesFurther start core) (at : List ℕ) (runs : List Run) (ticks : ℕ) (core_is : done ≡ core)
    (at_is : at ≡ clock.at) (runs_is : runs ≡ clock.ended) (ticks_is : ticks ≡ last_tick clock.at) where
  enough : 1 ≤ clock.processors
  enough = omega (arith, same, some)

  put : (P : Setup → ℕ → List Entry → List ℕ → List Run → ℕ → Type 0)
      → P (setup_in meaning core) clock.processors core.entries clock.at clock.ended (last_tick clock.at)
      → P (setup_in meaning start) processors done.entries at runs ticks
  put P is =
      subst (λ (s : Setup). P s processors done.entries at runs ticks) (further-setup meaning start core further)
      (subst (λ (p : ℕ). P (setup_in meaning core) p done.entries at runs ticks) same
      (subst (λ (c : CoreState L). P (setup_in meaning core) clock.processors c.entries at runs ticks) (sym core_is)
      (subst (λ (a : List ℕ). P (setup_in meaning core) clock.processors core.entries a runs ticks) (sym at_is)
      (subst (λ (r : List Run). P (setup_in meaning core) clock.processors core.entries clock.at r ticks) (sym runs_is)
      (subst (λ (t : ℕ). P (setup_in meaning core) clock.processors core.entries clock.at clock.ended t)
      (sym ticks_is) is)))))

  pub done-rule : IsByTheRule (setup_in meaning start) costs processors done.entries at runs ticks
  done-rule = put (λ s p es a r t. IsByTheRule s costs p es a r t)
      (by-the-rule meaning core clock kept rests over enough costs last)

  pub done-runs : IsOneRunACall costs (timed at done.entries) runs
  done-runs = put (λ s p es a r t. IsOneRunACall costs (timed a es) r)
      (one-run meaning core clock kept rests over enough costs last)

  pub done-few : NeverMoreRuns processors runs
  done-few = put (λ s p es a r t. NeverMoreRuns p r) (never-more meaning core clock kept rests over enough costs last)

  pub done-busy : NeverIdleForNothing (setup_in meaning start) processors (timed at done.entries) runs ticks
  done-busy = put (λ s p es a r t. NeverIdleForNothing s p (timed a es) r t)
      (never-idle meaning core clock kept rests over enough costs last)

  pub done-bound : ticks ≤ sum_of_costs costs runs
  done-bound = put (λ s p es a r t. t ≤ sum_of_costs costs r)
      (bounded meaning core clock kept rests over enough costs last)

  -- sums of what calls cost stay small
  pub done-small : AreSmall meaning start costs processors → sum_of_costs costs runs < 9000000000
  done-small small =
      let begins = rests.begins in
      put (λ s p es a r t. sum_of_costs costs r < 9000000000)
      (costs-small meaning core clock costs kept
      (subst (AreSmall meaning core costs) (sym same)
      (further-small meaning start core costs processors further small)) begins.ticks last)

  pub done-end : GoesToEnd meaning start done
  done-end = subst (λ (c : CoreState L). GoesToEnd meaning start c) (sym core_is) (record {
    legally = record { on = further.on; legal = kept.legal; halted_ = further.halted_ };
    whole = whole meaning core clock kept rests over enough costs last;
  })
