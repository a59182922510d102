use Rattle.flow_turns.proofs.Settled.{settled-ok, settled-err}
use Rattle.rt_perflow.proofs.perflow.PerFlow.drive.Goals as goal

pub returns-clause-ok : goal.returns-clause-ok
returns-clause-ok g c =
    settled-ok g.L.Meaning.meaning c.args.core c.resume.new.self c.rounds.result c.is_halted-halted.result
    c.resume.ensures c.rounds.ensures.on c.is_halted-halted.ensures c.settle.result c.settle.ensures.ok

pub returns-clause-err : goal.returns-clause-err
returns-clause-err g c =
    settled-err g.L.Meaning.meaning c.args.core c.resume.new.self c.rounds.result c.is_halted-halted.result
    c.resume.ensures c.rounds.ensures.on c.is_halted-halted.ensures c.settle.result c.settle.ensures.err
