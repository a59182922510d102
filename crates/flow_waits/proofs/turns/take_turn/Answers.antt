use Rattle.std.proofs.Common.{length, sym, ap, ◌∙◌}
use Rattle.flow_waits.proofs.Turning.{ended-turn, line-turn, called-turn, went-turn}
use Rattle.flow_waits.proofs.turns.take_turn.Goals as goal

pub returns-in-Ended-clause-ok : goal.returns-in-Ended-clause-ok
returns-in-Ended-clause-ok g c =
    ended-turn g.L.Meaning.meaning c.args.core.now c.step_at_once.new.self c.args.flow c.in_ok-step_at_once.field-0
    c.in_ok-step_at_once.ensures.ok c.in-Ended.is

pub returns-in-Called-clause-ok : goal.returns-in-Called-clause-ok
returns-in-Called-clause-ok g c =
    called-turn g.L.Meaning.meaning c.args.core.now c.step_at_once.new.self c.args.flow c.in_ok-step_at_once.field-0
    c.in_ok-step_at_once.ensures.ok c.in-Called.is

pub returns-in-Went-clause-ok : goal.returns-in-Went-clause-ok
returns-in-Went-clause-ok g c =
    went-turn g.L.Meaning.meaning c.args.core.now c.step_at_once.new.self c.args.flow c.in_ok-step_at_once.field-0
    c.in_ok-step_at_once.ensures.ok (let kept = c.journal.ensures.kept in let legal = kept.legal in legal.locks)
    c.in-Went.is

pub returns-then-len-before-clause-ok : goal.returns-then-len-before-clause-ok
returns-then-len-before-clause-ok g c =
    line-turn g.L.Meaning.meaning c.args.core.now c.step_at_once.new.self c.args.flow c.in_ok-step_at_once.field-0
    c.in_ok-step_at_once.ensures.ok c.in-Waits.key c.in-Waits.holder c.in-Waits.is
    (ap length (sym c.journal-after.ensures.same) ∙ sym c.len.ensures ∙ c.if-len-before.true ∙ c.len-before.ensures
    ∙ ap length c.journal.ensures.same)
