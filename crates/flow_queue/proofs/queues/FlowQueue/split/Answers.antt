use Rattle.std.proofs.Common.{sym, subst, List, ◌∷◌, [], ◌++◌, ℕ}
use Rattle.crossbeam_queue.specs.Fifo.{Forks}
use Rattle.crossbeam_queue.specs.Passes.{view}
use Rattle.flow_queue.specs.Rule.{IsQueue, split_left, split_right, moves_of, puts_of, takes_of}
use Rattle.flow_queue.proofs.Kept.{forks, opens, told, moment, rooms, opened_with, begins, pushes, pops}
use Rattle.flow_queue.proofs.queues.FlowQueue.split.Goals as goal

pub another-other-requires-clause-rule : goal.another-other-requires-clause-rule
another-other-requires-clause-rule c =
    let pass = c.pass.inside.pass in
    let known = view pass in
    subst (λ v. Forks IsQueue pass.id v (split_left v) (split_right v)) (sym c.pass.invariant.is)
    (forks _ pass.id c.pass.inside.held (moves_of known) (puts_of known) (takes_of known))
