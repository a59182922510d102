use Rattle.std.proofs.Common.{◌≡◌, List, subst}
use Rattle.std.proofs.lemmas.Result.{IfOk-weaker}
use Rattle.flow_model.specs.declared.journals.Journal.{Journal}
use Rattle.flux_journal.proofs.Journaled.{journal_once}
use Rattle.nodes_tracker.specs.declared.peers.Peer.{Peer}
use Rattle.flux_swarms.specs.Peers.{ArePeersOf}
use Rattle.flux_swarms.specs.InTheCell.{AreInTheCell}
use Rattle.flux_swarms.specs.Printed.{printed_swarm}
use Rattle.flux_swarms.specs.Swarms.{IsSwarmText}
use Rattle.flux_swarms.proofs.swarms.print_swarm.Goals as goal

pub returns : goal.returns
returns g c journal reads =
    let p = c.args.program.now in
    let hash = c.args.hash.now in
    let meaning = g.L.Meaning.meaning c.args.library.now in
    let peers : List Peer = c.in_ok-swarm.swarm in
    let same : c.in_ok-journal.journal ≡ journal =
    journal_once p c.requires.named c.args.text.now c.in_ok-journal.journal journal c.in_ok-journal.ensures reads in
    let entries = journal.entries in
    let told : ArePeersOf p entries hash peers =
    subst (λ (j : Journal). ArePeersOf p j.entries hash peers) same c.in_ok-swarm.ensures.last in
    let cell : AreInTheCell meaning p entries hash peers =
    subst (λ (j : Journal). AreInTheCell meaning p j.entries hash peers) same c.in_ok-swarm.ensures.cell in
    IfOk-weaker c.print_peers.result (λ text. text ≡ printed_swarm c.as_slice.result.now)
    (IsSwarmText meaning p entries hash)
    (λ text is. record {
      peers = peers;
      told = told;
      cell = cell;
      printed = subst (λ (ps : List Peer). text ≡ printed_swarm ps) c.as_slice.ensures is;
    }) c.print_peers.ensures
