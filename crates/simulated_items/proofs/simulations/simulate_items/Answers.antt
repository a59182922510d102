use Rattle.std.proofs.Common.{◌≡◌, length, ap, ◌∙◌}
use Rattle.std.specs.Arc.{arc_value}
use Rattle.flux_laws.specs.Hoisted.{locks_of}
use Rattle.flux_runs.specs.Setups.{setup_of}
use Rattle.flux_runs.specs.Simulations.{costs_for}
use Rattle.simulated_items.proofs.Ready.{are_costs, are_sizes}
use Rattle.simulated_items.proofs.Made.{has_room, is_printed}
use Rattle.simulated_items.proofs.simulations.simulate_items.Goals as goal

pub simulate-requires-clause-entries : goal.simulate-requires-clause-entries
simulate-requires-clause-entries g c = c.in_ok-opened.ensures.none

pub simulate-requires-clause-idle : goal.simulate-requires-clause-idle
simulate-requires-clause-idle g c = c.in_ok-opened.ensures.idle

pub simulate-requires-clause-costs : goal.simulate-requires-clause-costs
simulate-requires-clause-costs g c =
    are_costs g.L.Meaning.meaning (arc_value c.args.library) c.args.checked.program c.args.items c.in_ok-opened.opened
    c.in_ok-opened.ensures c.in_ok-costs.costs c.args.given.now.list (rw c.len.ensures at c.in_ok-costs.ensures)
    c.args.given.now.within

pub simulate-requires-clause-sizes : goal.simulate-requires-clause-sizes
simulate-requires-clause-sizes g c =
    are_sizes g.L.Meaning.meaning (arc_value c.args.library) c.args.checked.program c.args.items c.in_ok-opened.opened
    c.in_ok-opened.ensures c.requires.small

pub print_runs-requires : goal.print_runs-requires
print_runs-requires g c =
    let done = c.in-Ok.done in
    has_room _ c.in_ok-costs.costs c.args.processors.count done.core.entries done.at done.runs done.ticks
    c.in-Ok.ensures.rule c.args.processors.few c.in-Ok.ensures.bound c.in-Ok.ensures.small

pub returns-in-Ok : goal.returns-in-Ok
returns-in-Ok g c =
    let done = c.in-Ok.done in
    let meaning = g.L.Meaning.meaning in
    let p = c.args.checked.program in
    let own = setup_of p (locks_of p) c.args.items (meaning (arc_value c.args.library)) in
    is_printed meaning own c.in_ok-opened.opened.core done.core c.in_ok-opened.ensures.is c.in-Ok.ensures.end
    c.in_ok-costs.costs c.args.processors.count done.at done.runs done.ticks c.in-Ok.ensures.rule c.in-Ok.ensures.runs
    c.in-Ok.ensures.few c.in-Ok.ensures.busy c.in-Ok.ensures.bound c.args.given.now.list c.print_runs.result
    (rw c.len.ensures at c.in_ok-costs.ensures) c.print_runs.ensures
