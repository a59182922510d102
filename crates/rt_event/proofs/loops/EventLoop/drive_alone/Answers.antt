use Rattle.rt_event.proofs.Rounds.{round-whole}
use Rattle.rt_event.proofs.loops.EventLoop.drive_alone.Goals as goal

pub returns-in-Ok-clause-ok : goal.returns-in-Ok-clause-ok
returns-in-Ok-clause-ok g c = round-whole g.L.Meaning.meaning c.args.core c.round.new.core c.in-Ok.ensures.ok
    c.in-Ok.ensures.legal
