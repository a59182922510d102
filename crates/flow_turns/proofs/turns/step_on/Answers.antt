use Rattle.std.proofs.Common.{◌∙◌, ap, arith, length}
use Rattle.flow_state.specs.States.{SetupState}
use Rattle.flow_turns.proofs.Owns.{adds-then, adds-step}
use Rattle.flow_turns.proofs.Ends.{comes-to-wait, comes-to-call, keeps-on, one-longer}
use Rattle.flow_turns.proofs.turns.step_on.Goals as goal

pub returns-in-Waits-clause-own : goal.returns-in-Waits-clause-own
returns-in-Waits-clause-own g c =
    adds-then c.args.core.now c.loop-event.core c.step.new.self c.args.flow c.loop-event.invariant.0
    (adds-step g.L.Meaning.meaning c.loop-event.core c.step.new.self c.args.flow c.in_ok-step.field-0 c.in_ok-step.ensures.ok
    c.step.ensures.others)

pub returns-in-Waits-clause-comes : goal.returns-in-Waits-clause-comes
returns-in-Waits-clause-comes g c =
    comes-to-wait g.L.Meaning.meaning c.args.core.now c.loop-event.core c.args.flow c.requires.on
    (record { begun_ = c.loop-event.invariant.1; halted_ = c.loop-event.invariant.2 }) c.step.new.self
    c.step.ensures.others _ c.in-Waits.holder (rw c.in-Waits.is at c.in_ok-step.ensures.ok)

pub returns-in-Job-clause-comes : goal.returns-in-Job-clause-comes
returns-in-Job-clause-comes g c =
    let leaves = c.step.ensures.others in
    let setting = leaves.setting in
    let adds = c.loop-event.invariant.0 in
    let kept = c.journal-journal.ensures.kept in
    let each = kept.each in
    let same = ap (λ (s : SetupState g.row.L.Denot). length s.items) (setting.setup_ ∙ adds.setup_) in
    comes-to-call g.L.Meaning.meaning c.args.core.now c.loop-event.core c.args.flow c.requires.on
    (record { begun_ = c.loop-event.invariant.1; halted_ = c.loop-event.invariant.2 }) c.step.new.self
    leaves c.in-Job.job (rw c.in-Job.is at c.in_ok-step.ensures.ok)
    (omega (arith, each, same, c.requires.flow))

pub loop-event-preserved : goal.loop-event-preserved
loop-event-preserved g c =
    let stepped = rw c.in-Went.is at c.in_ok-step.ensures.ok in
    let on = keeps-on g.L.Meaning.meaning c.args.core.now c.loop-event.core c.args.flow c.requires.on
    (record { begun_ = c.loop-event.invariant.1; halted_ = c.loop-event.invariant.2 }) c.step.new.self c.step.ensures.others stepped in
    let longer = one-longer g.L.Meaning.meaning c.args.core.now c.loop-event.core c.args.flow c.requires.on
    (record { begun_ = c.loop-event.invariant.1; halted_ = c.loop-event.invariant.2 }) c.step.new.self c.step.ensures.others stepped in
    let was = c.loop-event.invariant.3 in (
      adds-then c.args.core.now c.loop-event.core c.step.new.self c.args.flow c.loop-event.invariant.0
          (adds-step g.L.Meaning.meaning c.loop-event.core c.step.new.self c.args.flow c.in_ok-step.field-0
          c.in_ok-step.ensures.ok c.step.ensures.others),
      on.0,
      on.1,
      omega (arith, longer, was),
    )
