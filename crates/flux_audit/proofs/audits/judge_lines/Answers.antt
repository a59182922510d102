use Rattle.std.proofs.Common.{ℕ, List, [], refl, sym, ap, subst, ◌∙◌, arith}
use Rattle.flux_model.specs.Names.{IsNamed}
use Rattle.flow_state.specs.States.{SetupState, setup_at}
use Rattle.flux_audit.specs.Verdicts.{HasHeadFor}
use Rattle.flux_audit.specs.steps.Checks.{IsJudgedTo}
use Rattle.flux_audit.proofs.Passed.{head_first, judged_none, judged_more, judged_broken, judged_fits, judged_short, judged_yes, judged_from}
use Rattle.flux_audit.proofs.audits.judge_lines.Goals as goal

pub returns-in_default : goal.returns-in_default
returns-in_default g c =
    let text = c.args.journal.now in
    head_first (setup_at g.L.Meaning.meaning c.args.state.now) text
    (subst (λ (n : ℕ). HasHeadFor n text → ⊥) c.flows.ensures c.in_default.ensures)

pub lines-init : goal.lines-init
lines-init g c =
    let meaning = g.L.Meaning.meaning in
    let setup = c.args.state.now.setup in
    let named = subst IsNamed c.requires.same c.requires.named in
    let text = c.args.journal.now in
    record {
      judged = judged_none meaning setup named text c.flows.result c.in-Some.opened c.args.state.now c.flows.ensures c.in-Some.ensures refl c.requires.fresh;
      legal = c.keep.ensures;
    }

pub check_line-requires-clause-same : goal.check_line-requires-clause-same
check_line-requires-clause-same g c =
    let judged = c.lines.invariant.judged in
    c.requires.same ∙ sym (ap (λ (s : SetupState _). s.program) judged.same)

pub returns-in-Some-2 : goal.returns-in-Some-2
returns-in-Some-2 g c =
    let meaning = g.L.Meaning.meaning in
    let setup = c.args.state.now.setup in
    let named = subst IsNamed c.requires.same c.requires.named in
    let text = c.args.journal.now in
    let line = c.in-Some-next_line.line.now in
    let left = c.next_line.new.self in
    let judged = subst (λ (ls : List (List ℕ)). IsJudgedTo meaning setup text ls c.lines.state c.lines.number) c.in-Some-next_line.ensures.found c.lines.invariant.judged in
    judged_broken meaning setup named text line left c.lines.state c.lines.number judged c.in-Some-2.rule
    (rw c.in-Some-2.is at c.in_ok-rule.ensures)

pub overflow_add-number : goal.overflow_add-number
overflow_add-number g c =
    let meaning = g.L.Meaning.meaning in
    let setup = c.args.state.now.setup in
    let named = subst IsNamed c.requires.same c.requires.named in
    let text = c.args.journal.now in
    let line = c.in-Some-next_line.line.now in
    let left = c.next_line.new.self in
    let judged = subst (λ (ls : List (List ℕ)). IsJudgedTo meaning setup text ls c.lines.state c.lines.number) c.in-Some-next_line.ensures.found c.lines.invariant.judged in
    omega (arith, judged_fits meaning setup named text line left c.lines.state c.lines.number judged)

pub lines-preserved : goal.lines-preserved
lines-preserved g c =
    let meaning = g.L.Meaning.meaning in
    let setup = c.args.state.now.setup in
    let named = subst IsNamed c.requires.same c.requires.named in
    let text = c.args.journal.now in
    let line = c.in-Some-next_line.line.now in
    let left = c.next_line.new.self in
    let judged = subst (λ (ls : List (List ℕ)). IsJudgedTo meaning setup text ls c.lines.state c.lines.number) c.in-Some-next_line.ensures.found c.lines.invariant.judged in
    record {
      judged = judged_more meaning setup named text line left c.lines.state c.check_line.new.state c.lines.number judged
          (rw c.in_default-2.is at c.in_ok-rule.ensures) c.keep-in-Some-next_line.ensures;
      legal = c.keep-in-Some-next_line.ensures;
    }

pub returns-then-live-gt0 : goal.returns-then-live-gt0
returns-then-live-gt0 g c =
    let meaning = g.L.Meaning.meaning in
    let setup = c.args.state.now.setup in
    let named = subst IsNamed c.requires.same c.requires.named in
    let text = c.args.journal.now in
    let judged = subst (λ (ls : List (List ℕ)). IsJudgedTo meaning setup text ls c.lines.state c.lines.number) c.in_default-next_line.ensures.over c.lines.invariant.judged in
    let opened = c.in-Some.ensures in
    judged_short meaning setup named text c.lines.state c.lines.number judged (omega (arith, c.live.ensures, c.if-live-gt0.true))

pub overflow_sub-result : goal.overflow_sub-result
overflow_sub-result g c =
    let meaning = g.L.Meaning.meaning in
    let setup = c.args.state.now.setup in
    let named = subst IsNamed c.requires.same c.requires.named in
    let text = c.args.journal.now in
    let judged = subst (λ (ls : List (List ℕ)). IsJudgedTo meaning setup text ls c.lines.state c.lines.number) c.in_default-next_line.ensures.over c.lines.invariant.judged in
    let opened = c.in-Some.ensures in
    judged_from meaning setup named text [] c.lines.state c.lines.number c.in-Some.opened.first judged opened.first_

pub returns : goal.returns
returns g c =
    let meaning = g.L.Meaning.meaning in
    let setup = c.args.state.now.setup in
    let named = subst IsNamed c.requires.same c.requires.named in
    let text = c.args.journal.now in
    let judged = subst (λ (ls : List (List ℕ)). IsJudgedTo meaning setup text ls c.lines.state c.lines.number) c.in_default-next_line.ensures.over c.lines.invariant.judged in
    let opened = c.in-Some.ensures in
    judged_yes meaning setup named text c.lines.state c.lines.number c.in-Some.opened.first judged opened.first_ c.lines.invariant.legal
    (omega (arith, c.live.ensures, c.if-live-gt0.false))
