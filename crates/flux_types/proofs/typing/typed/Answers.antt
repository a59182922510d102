use Rattle.std.proofs.Common.{refl}
use Rattle.flux_types.specs.Signatures.{AreSigs}
use Rattle.flux_types.proofs.Answered.{sigs_are, nodes_found}
use Rattle.flux_types.proofs.typing.typed.Goals as goal

pub flows-requires-clause-sigs : goal.flows-requires-clause-sigs
flows-requires-clause-sigs g c =
    sigs_are (g.L.Meaning.meaning c.args.library.now) c.args.decls.now c.args.named.now c.in_ok-names.names c.as_slice-nodes.result.now c.args.order.now.nodes c.as_slice.result.now c.as_slice-2.result.now
    c.requires.named c.requires.ordered c.in_ok-names.ensures c.as_slice-nodes.ensures c.as_slice.ensures (rw c.as_slice-2.ensures c.in_ok-sigs.ensures)

pub returns : goal.returns
returns g c = (
  sigs_are (g.L.Meaning.meaning c.args.library.now) c.args.decls.now c.args.named.now c.in_ok-names.names c.as_slice-nodes.result.now c.args.order.now.nodes c.as_slice.result.now c.in_ok-sigs.sigs
      c.requires.named c.requires.ordered c.in_ok-names.ensures c.as_slice-nodes.ensures c.as_slice.ensures c.in_ok-sigs.ensures,
  nodes_found (g.L.Meaning.meaning c.args.library.now) c.args.decls.now c.args.named.now c.as_slice-nodes.result.now c.as_slice-3.result.now c.hollow_places-hollow.result c.in_ok-fault.fault c.fault_or.result
      c.requires.named c.as_slice-nodes.ensures c.as_slice-3.ensures c.hollow_places-hollow.ensures c.in_ok-fault.ensures c.fault_or.ensures,
)
