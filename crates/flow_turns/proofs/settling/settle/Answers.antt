use Rattle.std.proofs.Common.{◌≡◌, ◌∙◌, ⊎_elim, sym, ap}
use Rattle.flow_core.specs.States.{CoreState}
use Rattle.flow_core.specs.Runs.{live_count}
use Rattle.flow_turns.proofs.settling.settle.Goals as goal
use Rattle.flow_turns.proofs.settling.settle.Goals.{then-halted, else-halted}

pub returns-then-live-eq0-clause-ok : goal.returns-then-live-eq0-clause-ok
returns-then-live-eq0-clause-ok g c =
    let core = c.if-halted.core in
    let same : core ≡ record c.args.core { halted = c.args.halted } =
    elim c.if-halted.branch [
      | then-halted w ↦ w.core-is ∙ w.halt.ensures ∙ ap (λ h. record c.args.core { halted = h }) (sym w.if-halted.true)
      | else-halted w ↦ w.core-is ∙ w.resume.ensures ∙ ap (λ h. record c.args.core { halted = h }) (sym w.if-halted.false)
    ] in
    let kept = c.journal-journal.ensures.kept in
    record {
      back = record {
        setup_ = ap (λ (k : CoreState _). k.setup) same;
        entries_ = ap (λ (k : CoreState _). k.entries) same;
        halted_ = ap (λ (k : CoreState _). k.halted) same;
        legal = kept.legal;
      };
      whole = c.none_live_is_whole.ensures core kept (sym c.live.ensures ∙ c.if-live-eq0.true);
    }

pub returns-else-live-eq0-clause-want : goal.returns-else-live-eq0-clause-want
returns-else-live-eq0-clause-want g c =
    let core = c.if-halted.core in
    let same : core ≡ record c.args.core { halted = c.args.halted } =
    elim c.if-halted.branch [
      | then-halted w ↦ w.core-is ∙ w.halt.ensures ∙ ap (λ h. record c.args.core { halted = h }) (sym w.if-halted.true)
      | else-halted w ↦ w.core-is ∙ w.resume.ensures ∙ ap (λ h. record c.args.core { halted = h }) (sym w.if-halted.false)
    ] in
    ⊎_elim (λ is. is)
    (λ none. absurd (c.if-live-eq0.false (c.live.ensures ∙ ap live_count same ∙ none)))
    c.requires
