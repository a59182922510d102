use Rattle.std.proofs.Common.{subst}
use Rattle.flux_graph.specs.Faults.{IsFault}
use Rattle.flux_check.proofs.Judged.{some_site, cycle_found}
use Rattle.flux_check.proofs.checking.ordered.Goals as goal

pub unreachable-requires : goal.unreachable-requires
unreachable-requires c = some_site c.args.named.now c.in-Err-Cycle.path c.requires.numbered c.requires.sites (subst (IsFault c.args.named.now.program.nodes) c.in-Err-Cycle.field-0-is c.in-Err-Cycle.ensures.cycle) _ _ c.site_of.result c.as_slice.ensures c.as_slice-2.ensures c.site_of.ensures c.in_default.is

pub returns-clause-fault : goal.returns-clause-fault
returns-clause-fault c =
    cycle_found c.args.named.now c.in-Err-Cycle.path c.requires.numbered c.requires.sites (subst (IsFault c.args.named.now.program.nodes) c.in-Err-Cycle.field-0-is c.in-Err-Cycle.ensures.cycle) _ _ _ c.site_of.result c.in-Some.at c.in-Ok-path_names.names c.as_slice.ensures c.as_slice-2.ensures c.site_of.ensures c.in-Some.is c.as_slice-3.ensures c.in-Ok-path_names.ensures
