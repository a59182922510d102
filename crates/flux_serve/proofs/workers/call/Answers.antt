use Rattle.std.proofs.Common.{subst, ◌∙◌}
use Rattle.flow_core.specs.States.{CoreState}
use Rattle.flow_core.specs.Runs.{GoesOn}
use Rattle.flux_serve.proofs.Working.{adds-on, given-shared, given-seen}
use Rattle.flux_serve.proofs.workers.call.Goals as goal

pub give-requires-clause-shared : goal.give-requires-clause-shared
give-requires-clause-shared g c = c.turn-turn.ensures.shared ∙ c.requires.shared

pub give-requires-clause-on : goal.give-requires-clause-on
give-requires-clause-on g c =
    let F : CoreState g.row.L.Denot → Type 0 = λ found. GoesOn found c.take_answer-goes.new.core in
    subst F c.turn-turn.ensures.core (adds-on _ _ _ c.take_answer-goes.ensures.own)

pub returns-clause-shared : goal.returns-clause-shared
returns-clause-shared g c =
    given-shared c.args.seat c.turn-turn.result c.turn-turn.ensures c.take_answer-goes.new.core (adds-on _ _ _ c.take_answer-goes.ensures.own) c.give.result c.give.ensures.seat
    ∙ c.requires.shared

pub returns-clause-seen : goal.returns-clause-seen
returns-clause-seen g c =
    given-seen c.args.seat c.turn-turn.result c.turn-turn.ensures c.take_answer-goes.new.core (adds-on _ _ _ c.take_answer-goes.ensures.own) c.give.result c.give.ensures.seat
