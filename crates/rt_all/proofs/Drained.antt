-- A core that was stopped, and driven on.
use Rattle.std.proofs.Common.{◌++◌, Result, Ok, Err, ap, ◌∙◌, append_assoc}
use Rattle.std.specs.Prelude.{IfOk, IfErr}
use Rattle.flux_values.specs.Meanings.{LibraryMeaning}
use Rattle.flow_core.specs.States.{CoreState}
use Rattle.flow_core.specs.Runs.{GoesOnLegally, GoesToEnd}
use Rattle.flow_core.specs.declared.runtimes.Stopped.{Stopped}

module _ {L : Type 0} (meaning : L → LibraryMeaning) (one two : CoreState L) (first : GoesOnLegally meaning one two) where
  then-on : (three : CoreState L) → GoesOnLegally meaning two three → GoesOnLegally meaning one three
  then-on three next = let was = first.on in let on = next.on in record {
    on = record {
      setup_ = on.setup_ ∙ was.setup_;
      more = was.more ++ on.more;
      added = on.added ∙ (ap (λ xs. xs ++ on.more) was.added ∙ append_assoc one.entries was.more on.more);
    };
    legal = next.legal;
    halted_ = next.halted_ ∙ first.halted_;
  }

  -- it was stopped, and then came to its end
  pub drained-ok : (r : Result (CoreState L) (Stopped L)) → IfOk r (GoesToEnd meaning two) → IfOk r (GoesToEnd meaning one)
  drained-ok (Ok three) end = record { legally = then-on three end.legally; whole = end.whole }
  drained-ok (Err stopped) end = tt

  -- or was stopped again
  pub drained-err : (r : Result (CoreState L) (Stopped L)) → IfErr r (λ stopped. GoesOnLegally meaning two stopped.core)
      → IfErr r (λ stopped. GoesOnLegally meaning one stopped.core)
  drained-err (Ok three) on = tt
  drained-err (Err stopped) on = then-on stopped.core on
