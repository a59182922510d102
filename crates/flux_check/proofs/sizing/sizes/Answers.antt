use Rattle.std.proofs.Common.{subst}
use Rattle.flux_syntax.specs.Least.{IsLeastFault}
use Rattle.flux_hoist.specs.Sets.{held_by}
use Rattle.flux_check.proofs.Limits.{fault_is, sizes_are}
use Rattle.flux_check.proofs.sizing.sizes.Goals as goal

pub returns-in-Some-clause-fault : goal.returns-in-Some-clause-fault
returns-in-Some-clause-fault c =
    subst (λ fault. IsLeastFault fault c.fault_at.result)
    (fault_is (held_by c.args.sets.now.nodes) c.args.decls.now _ c.args.named.now _ c.in_ok-table.table _ c.past_limit.result c.requires.named c.as_slice-2.ensures c.as_slice-lines.ensures c.in_ok-table.ensures c.as_slice.ensures c.past_limit.ensures c.in-Some.at c.in-Some.is)
    c.fault_at.ensures

pub returns-clause-sizes : goal.returns-clause-sizes
returns-clause-sizes c =
    sizes_are (held_by c.args.sets.now.nodes) c.args.decls.now _ c.args.named.now _ c.in_ok-table.table _ c.past_limit.result c.requires.named c.as_slice-2.ensures c.as_slice-lines.ensures c.in_ok-table.ensures c.as_slice.ensures c.past_limit.ensures
    _ c.in_ok-line_sizes-in-None.field-0 c.in-None.is c.as_slice-in-None.ensures c.in_ok-line_sizes-in-None.ensures
