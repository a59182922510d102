-- How cores go on.
use Rattle.std.proofs.Common.{◌≡◌, List, ◌++◌, [], sym, ap, refl, ◌∙◌, append_assoc}
use Rattle.std.proofs.lemmas.List.{append-nil}
use Rattle.flow_core.specs.States.{CoreState}
use Rattle.flow_core.specs.Runs.{GoesOn}

module _ {L : Type 0} where
  pub goes_on-none : (core : CoreState L) → GoesOn core core
  goes_on-none core = record { setup_ = refl; more = []; added = sym (append-nil core.entries) }

  pub goes_on-then : (one two three : CoreState L) → GoesOn one two → GoesOn two three → GoesOn one three
  goes_on-then one two three first then = record {
    setup_ = then.setup_ ∙ first.setup_;
    more = first.more ++ then.more;
    added = then.added ∙ (ap (λ xs. xs ++ then.more) first.added ∙ append_assoc one.entries first.more then.more);
  }
