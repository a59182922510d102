use Rattle.std.proofs.Common.{true, sym, ap, subst, ◌∙◌}
use Rattle.flow_core.specs.States.{CoreState}
use Rattle.flow_core.specs.Runs.{GoesOn}
use Rattle.flow_turns.proofs.Settled.{goes-flag}
use Rattle.flow_turns.proofs.workers.stop.Goals as goal

pub give-requires-clause-on : goal.give-requires-clause-on
give-requires-clause-on g c =
    let turn = c.turn-turn.result in
    let held = turn.held in
    let halted : CoreState g.row.L.Denot → CoreState g.row.L.Denot = λ core. record core { halted = true } in
    let is = c.halt.ensures ∙ ap halted c.turn-turn.ensures.core in
    subst (GoesOn held.found) (sym is) (goes-flag held.found true)
