-- Cores that go on, and what comes of it for what is judged by their setup.
use Rattle.std.proofs.Common.{◌≡◌, ◌≤◌, ℕ, List, [], ◌++◌, Some, append_assoc, refl, sym, ap, subst, ◌∙◌}
use Rattle.std.specs.List.{sum_by}
use Rattle.std.proofs.lemmas.List.{append-nil}
use Rattle.flux_values.specs.Meanings.{LibraryMeaning}
use Rattle.flux_model.specs.declared.items.FlowNo.{FlowNo}
use Rattle.flux_laws.specs.Growth.{item_size}
use Rattle.flow_state.specs.States.{SetupState, setup_by}
use Rattle.flow_core.specs.States.{CoreState, setup_in}
use Rattle.flow_core.specs.Runs.{GoesOn, LeavesOthers}
use Rattle.flow_orders.specs.Costs.{AreCosts}
use Rattle.flux_simulate.specs.steps.Calls.{AreSmall}
use Rattle.flux_simulate.specs.steps.Ticking.{GoesFurther}

pub further-same : {L : Type 0} (core : CoreState L) → GoesFurther core core
further-same core = record {
  on = record { setup_ = refl; more = []; added = sym (append-nil core.entries) };
  halted_ = refl;
}

pub further-then : {L : Type 0} (a b c : CoreState L) → GoesFurther a b → GoesFurther b c → GoesFurther a c
further-then a b c one other = let first = one.on in let last = other.on in record {
  on = record {
    setup_ = last.setup_ ∙ first.setup_;
    more = first.more ++ last.more;
    added = last.added ∙ ap (λ es. es ++ last.more) first.added ∙ append_assoc a.entries first.more last.more;
  };
  halted_ = other.halted_ ∙ one.halted_;
}

-- what is so after a core's call
pub further-call : {L : Type 0} (old new : CoreState L) (flow : FlowNo) → GoesOn old new → LeavesOthers old new flow
    → GoesFurther old new
further-call old new flow on others = record { on = on; halted_ = let setting = others.setting in setting.halted_ }

pub further-setup : {L : Type 0} (meaning : L → LibraryMeaning) (old new : CoreState L) → GoesFurther old new
    → setup_in meaning new ≡ setup_in meaning old
further-setup meaning old new further = ap (setup_by meaning) (let on = further.on in on.setup_)

-- what is small stays so
pub further-small : {L : Type 0} (meaning : L → LibraryMeaning) (old new : CoreState L) (costs : List ℕ) (processors : ℕ)
    → GoesFurther old new → AreSmall meaning old costs processors → AreSmall meaning new costs processors
further-small {L} meaning old new costs processors further small =
    let same : new.setup ≡ old.setup = let on = further.on in on.setup_ in record {
      costs_ = subst (λ (s : SetupState L). AreCosts s.program costs) (sym same) small.costs_;
      sizes = subst (λ (s : SetupState L). sum_by (λ item. item_size (setup_by meaning s) (Some item)) s.items ≤ 4194304)
          (sym same) small.sizes;
      processors_ = small.processors_;
    }
