use Rattle.std.proofs.Common.{subst}
use Rattle.flux_graph.specs.steps.Returning.{IsBack}
use Rattle.flux_graph.proofs.Back.{is_lowest, none_at_all}
use Rattle.flux_graph.proofs.returning.lowest_cycle.Goals as goal

pub returns-in-Some : goal.returns-in-Some
returns-in-Some c = is_lowest c.args.nodes.now (record { 0 = c.loop-number.number }) c.in-Some.path c.loop-number.invariant (subst (IsBack c.args.nodes.now (record { 0 = c.loop-number.number })) c.in-Some.is c.in_ok-path.ensures)

pub unreachable-requires : goal.unreachable-requires
unreachable-requires c = none_at_all c.args.nodes.now c.loop-number.number c.loop-number-test.false c.loop-number.invariant c.requires.cycle
