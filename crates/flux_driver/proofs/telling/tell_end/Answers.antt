use Rattle.std.proofs.Common.{sym, subst}
use Rattle.flux_outside.specs.Streams.{WroteOrBroke}
use Rattle.flux_serve.specs.declared.batches.ServeEnd.{ServeEnd}
use Rattle.flux_driver.specs.Serving.{end_line}
use Rattle.flux_driver.proofs.telling.tell_end.Goals as goal

pub returns-in-Door-clause-said : goal.returns-in-Door-clause-said
returns-in-Door-clause-said g c =
    subst (λ (e : ServeEnd). WroteOrBroke (g.E.Sink.seen c.args.err.now) (g.E.Sink.seen c.say.new.err) (end_line e))
    (sym c.in-Door.is) c.say.ensures.said

pub returns-in-Log-clause-said : goal.returns-in-Log-clause-said
returns-in-Log-clause-said g c =
    subst (λ (e : ServeEnd). WroteOrBroke (g.E.Sink.seen c.args.err.now) (g.E.Sink.seen c.say-in-Log.new.err) (end_line e))
    (sym c.in-Log.is) c.say-in-Log.ensures.said
