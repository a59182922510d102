use Rattle.std.proofs.lemmas.Result.{on_ok_weaker}
use Rattle.flux_simulate.proofs.Watching.{finish-watched}
use Rattle.flux_simulate.proofs.simulating.finish_run.Goals as goal

pub returns-clause-watched : goal.returns-clause-watched
returns-clause-watched g c =
    on_ok_weaker c.look_again.result (λ again. finish-watched g.L.Meaning.meaning c.args.core.now c.finish_call.new.core
    c.args.flow c.args.idlers.now c.requires.watched (let kept = c.finish_call.ensures.kept in kept.legal)
    c.in_ok-finish_call.ensures.ends c.look_again.new.self again) c.look_again.ensures
