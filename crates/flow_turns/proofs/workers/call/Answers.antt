use Rattle.std.proofs.Common.{sym, subst}
use Rattle.flow_core.specs.Runs.{GoesOn}
use Rattle.flow_turns.specs.Workers.{WasRun}
use Rattle.flow_turns.proofs.Ran.{was-run}
use Rattle.flow_turns.proofs.workers.call.Goals as goal

pub returns-clause-ran : goal.returns-clause-ran
returns-clause-ran g c =
    let base = c.args.hall.now.base in
    let found = c.turn-turn.result.core in
    let on = subst (λ h. GoesOn h.base found) c.requires.hall c.turn-turn.ensures.on in
    subst (WasRun g.L.Meaning.meaning base c.args.job.now) (sym c.of-answered.ensures)
    (was-run g.L.Meaning.meaning base found c.take_answer-goes.new.core c.args.job.now on c.flow.result
    c.flow.ensures c.take_answer-goes.result c.run-made.result c.run-made.ensures c.take_answer-goes.ensures.goes)
