-- A drive as a whole: a core that was resumed, has gone on, and was settled.
use Rattle.std.proofs.Common.{◌≡◌, inl, Bool, true, false, ◌++◌, [], Result, Ok, Err, refl, sym, ap, ◌∙◌}
use Rattle.std.specs.Prelude.{IfOk, IfErr}
use Rattle.std.proofs.lemmas.List.{append-nil}
use Rattle.flux_values.specs.Meanings.{LibraryMeaning}
use Rattle.flow_core.specs.States.{CoreState}
use Rattle.flow_core.specs.Runs.{GoesOn, GoesOnLegally, GoesToEnd}
use Rattle.flow_core.specs.declared.runtimes.Stopped.{Stopped}
use Rattle.flow_turns.specs.Settling.{IsSetBack, EndsWhole}
use Rattle.flow_turns.specs.Workers.{IsOver}

module _ {L : Type 0} where
  pub goes-none : (core : CoreState L) → GoesOn core core
  goes-none core = record { setup_ = refl; more = []; added = sym (append-nil core.entries) }

  -- a core that was halted is over
  pub over_halted : (old new : CoreState L) → new ≡ record old { halted = true } → IsOver new
  over_halted old new is = inl (ap (λ (c : CoreState L). c.halted) is)

  pub goes-flag : (core : CoreState L) (halted : Bool) → GoesOn core (record core { halted = halted })
  goes-flag core halted = record { setup_ = refl; more = []; added = sym (append-nil core.entries) }

  module _ (meaning : L → LibraryMeaning) (old base closed : CoreState L) (halted : Bool)
      (is : base ≡ record old { halted = false }) (on : GoesOn base closed) (same : halted ≡ old.halted) where
    legally : (new : CoreState L) → IsSetBack meaning closed halted new → GoesOnLegally meaning old new
    legally new back = record {
      on = record {
        setup_ = back.setup_ ∙ (on.setup_ ∙ ap (λ c. c.setup) is);
        more = on.more;
        added = back.entries_ ∙ (on.added ∙ ap (λ c. c.entries ++ on.more) is);
      };
      legal = back.legal;
      halted_ = back.halted_ ∙ same;
    }

    pub settled-ok : (r : Result (CoreState L) (Stopped L)) → IfOk r (EndsWhole meaning closed halted)
        → IfOk r (GoesToEnd meaning old)
    settled-ok (Ok new) ends = record { legally = legally new ends.back; whole = ends.whole }
    settled-ok (Err stopped) ends = tt

    pub settled-err : (r : Result (CoreState L) (Stopped L))
        → IfErr r (λ stopped. IsSetBack meaning closed halted stopped.core)
        → IfErr r (λ stopped. GoesOnLegally meaning old stopped.core)
    settled-err (Ok new) back = tt
    settled-err (Err stopped) back = legally stopped.core back
