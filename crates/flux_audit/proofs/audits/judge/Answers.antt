use Rattle.std.proofs.Common.{sym, ap, subst, ◌∙◌, IfOk}
use Rattle.flux_model.specs.Names.{IsNamed}
use Rattle.flux_model.specs.Numbered.{IsNumbered}
use Rattle.flow_state.specs.States.{SetupState, FlowState, setup_by}
use Rattle.flux_audit.specs.Verdicts.{HasVerdict}
use Rattle.flux_audit.proofs.audits.judge.Goals as goal

pub judge_by-requires-clause-fresh : goal.judge_by-requires-clause-fresh
judge_by-requires-clause-fresh g c = ap (λ (s : FlowState _). s.entries) c.in_ok-state.ensures

pub judge_by-requires-clause-same : goal.judge_by-requires-clause-same
judge_by-requires-clause-same g c =
    c.deref.ensures ∙ c.in_ok-program.ensures ∙ sym (ap (λ (s : FlowState _). s.setup.program) c.in_ok-state.ensures)

pub judge_by-requires-clause-numbered : goal.judge_by-requires-clause-numbered
judge_by-requires-clause-numbered g c =
    let sound = c.requires.run.sound in
    subst IsNumbered (sym (c.deref.ensures ∙ c.in_ok-program.ensures)) sound.numbered

pub judge_by-requires-clause-named : goal.judge_by-requires-clause-named
judge_by-requires-clause-named g c = subst IsNamed (sym (c.deref.ensures ∙ c.in_ok-program.ensures)) c.requires.named

pub returns : goal.returns
returns g c =
    subst (λ (s : SetupState _). IfOk c.judge_by.result (HasVerdict (setup_by g.L.Meaning.meaning s) c.args.journal.now))
    (ap (λ (s : FlowState _). s.setup) c.in_ok-state.ensures) c.judge_by.ensures
