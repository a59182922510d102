use Rattle.std.proofs.Common.{◌≡◌, ◌∙◌, sym, ap, subst}
use Rattle.std.proofs.lemmas.Result.{on_ok_weaker}
use Rattle.flux_values.specs.declared.answers.Mode.TheVariants.{Reader, Writer}
use Rattle.flow_model.specs.declared.journals.Entry.{Entry}
use Rattle.flow_model.specs.declared.journals.Event.TheVariants as events
use Rattle.flow_core.specs.States.{setup_in}
use Rattle.flow_orders.specs.Turns.{IsInLine}
use Rattle.flow_waits.specs.steps.Aside.{beside}
use Rattle.flow_waits.proofs.Membership.{less_kept}
use Rattle.flow_waits.proofs.Told.{told-take, told-drop, told-other, told-wait, waiting, last-own, last-event}
use Rattle.flow_waits.proofs.Woken.{woken-ready, line-ready}
use Rattle.flow_waits.proofs.Aside.{wakes-beside, line-beside, passed-kept, passed-there}
use Rattle.flow_waits.proofs.candidates.Candidates.follow.Goals as goal

pub returns-in-Take-clause-covers : goal.returns-in-Take-clause-covers
returns-in-Take-clause-covers g c = λ aside lags.
    on_ok_weaker c.wake.result (λ wakes. told-take (setup_in g.L.Meaning.meaning c.args.core.now)
    c.args.core.now.entries (let kept = c.journal.ensures.kept in kept.legal) (beside c.args.self.now aside) c.args.from lags
    (beside c.wake.new.self aside) c.in-Take.key c.in-Take.mode (last-event lags.before lags.flow lags.event
    c.args.core.now.entries c.journal.result.now.entries c.in-Some.entry.now lags.added c.journal.ensures.same
    c.in-Some.ensures ∙ c.in-Take.is)
    (wakes-beside c.args.self.now c.wake.new.self aside c.in-Take.key c.in-Take.mode c.args.from wakes)) (rw c.key.ensures at c.wake.ensures)

pub returns-in-Take-clause-ready : goal.returns-in-Take-clause-ready
returns-in-Take-clause-ready g c = λ aside lags.
    on_ok_weaker c.wake.result (λ wakes flow ready awake. woken-ready (setup_in g.L.Meaning.meaning c.args.core.now)
    c.args.core.now.entries c.args.self.now c.wake.new.self c.in-Take.key c.in-Take.mode c.args.from wakes flow ready)
    (rw c.key.ensures at c.wake.ensures)

pub returns-in_ok-wake-in-Drop-2-clause-covers : goal.returns-in_ok-wake-in-Drop-2-clause-covers
returns-in_ok-wake-in-Drop-2-clause-covers g c = λ aside lags.
    on_ok_weaker c.wake_line.result (λ last. told-drop (setup_in g.L.Meaning.meaning c.args.core.now)
    c.args.core.now.entries (let kept = c.journal.ensures.kept in kept.legal) (beside c.args.self.now aside) c.args.from lags
    (beside c.wake-in-Drop.new.self aside) (beside c.wake-in-Drop-2.new.self aside) (beside c.wake_line.new.self aside)
    c.key-key.result c.line.result.now
    (last-event lags.before lags.flow lags.event c.args.core.now.entries
    c.journal.result.now.entries c.in-Some.entry.now lags.added c.journal.ensures.same c.in-Some.ensures
    ∙ c.in-Drop.is ∙ ap events.Drop (sym c.key-key.ensures))
    (wakes-beside c.args.self.now c.wake-in-Drop.new.self aside c.key-key.result Reader c.args.from
    c.in_ok-wake-in-Drop.ensures)
    (wakes-beside c.wake-in-Drop.new.self c.wake-in-Drop-2.new.self aside c.key-key.result Writer c.args.from
    c.in_ok-wake-in-Drop-2.ensures)
    c.line.ensures (line-beside c.wake-in-Drop-2.new.self c.wake_line.new.self aside c.line.result.now last))
    c.wake_line.ensures

pub returns-in_ok-wake-in-Drop-2-clause-ready : goal.returns-in_ok-wake-in-Drop-2-clause-ready
returns-in_ok-wake-in-Drop-2-clause-ready g c = λ aside lags.
    let setup = setup_in g.L.Meaning.meaning c.args.core.now in
    let entries = c.args.core.now.entries in
    on_ok_weaker c.wake_line.result (λ last flow ready awake.
    line-ready setup entries (let kept = c.journal.ensures.kept in kept.legal) c.wake-in-Drop-2.new.self
    c.wake_line.new.self c.key-key.result c.args.from c.line.result.now c.line.ensures last flow
    (woken-ready setup entries c.wake-in-Drop.new.self c.wake-in-Drop-2.new.self c.key-key.result Writer c.args.from
    c.in_ok-wake-in-Drop-2.ensures flow
    (woken-ready setup entries c.args.self.now c.wake-in-Drop.new.self c.key-key.result Reader c.args.from
    c.in_ok-wake-in-Drop.ensures flow ready))) c.wake_line.ensures

pub returns-in_default-event : goal.returns-in_default-event
returns-in_default-event g c = record {
  covers = λ aside lags. told-other (setup_in g.L.Meaning.meaning c.args.core.now) c.args.core.now.entries
      (let kept = c.journal.ensures.kept in kept.legal) (beside c.args.self.now aside) c.args.from lags
      (λ key mode takes. c.in_default-event.not-Take key mode
      (sym (last-event lags.before lags.flow lags.event c.args.core.now.entries
      c.journal.result.now.entries c.in-Some.entry.now lags.added c.journal.ensures.same c.in-Some.ensures)
      ∙ takes))
      (λ key drops. c.in_default-event.not-Drop key (sym
      (last-event lags.before lags.flow lags.event c.args.core.now.entries
      c.journal.result.now.entries c.in-Some.entry.now lags.added c.journal.ensures.same c.in-Some.ensures)
      ∙ drops));
  ready = λ aside lags flow ready awake. ready;
}

pub returns-in-Wait-clause-covers : goal.returns-in-Wait-clause-covers
returns-in-Wait-clause-covers g c = λ aside lags.
    let own = last-own lags.before lags.flow lags.event c.args.core.now.entries c.journal.result.now.entries
    c.in-Some.entry.now lags.added c.journal.ensures.same c.in-Some.ensures in
    let flow : lags.flow.0 ≡ c.in-Some.entry.now.flow.0 = ap (λ (e : Entry). e.flow.0) (sym own) in
    told-wait (setup_in g.L.Meaning.meaning c.args.core.now) c.args.core.now.entries
    (let kept = c.journal.ensures.kept in kept.legal) (beside c.args.self.now aside) c.args.from lags
    (beside c.pass_over.new.self aside) c.in-Wait.field-0 c.in-Wait.field-1
    (ap (λ (e : Entry). e.event) (sym own) ∙ c.in-Wait.is)
    (λ other apart. passed-kept c.args.self.now c.pass_over.new.self aside c.in-Some.entry.now.flow.0 c.pass_over.ensures
    other (λ same. apart (flow ∙ same)))
    (passed-there c.args.self.now c.pass_over.new.self aside c.in-Some.entry.now.flow.0 c.pass_over.ensures)
    c.pass_over.ensures.readers_ c.pass_over.ensures.writers_

pub returns-in-Wait-clause-ready : goal.returns-in-Wait-clause-ready
returns-in-Wait-clause-ready g c = λ aside lags flow ready awake.
    let own = last-own lags.before lags.flow lags.event c.args.core.now.entries c.journal.result.now.entries
    c.in-Some.entry.now lags.added c.journal.ensures.same c.in-Some.ensures in
    let in_line = waiting (setup_in g.L.Meaning.meaning c.args.core.now) c.args.core.now.entries
    (let kept = c.journal.ensures.kept in kept.legal) (beside c.args.self.now aside) c.args.from lags
    c.in-Wait.field-0 c.in-Wait.field-1 (ap (λ (e : Entry). e.event) (sym own) ∙ c.in-Wait.is) in
    less_kept c.args.self.now.ready c.pass_over.new.self.ready c.in-Some.entry.now.flow.0 c.pass_over.ensures.less flow
    (λ same. awake (subst (IsInLine (setup_in g.L.Meaning.meaning c.args.core.now) c.args.core.now.entries)
    (ap (λ (e : Entry). e.flow.0) (sym own) ∙ same) in_line)) ready
