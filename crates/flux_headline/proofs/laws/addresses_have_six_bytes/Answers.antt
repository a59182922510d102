use Rattle.flux_commands.specs.Audited.{setup_given}
use Rattle.flux_headline.proofs.Addresses.{addresses-six}
use Rattle.flux_headline.proofs.laws.addresses_have_six_bytes.Goals as goal

pub returns : goal.returns
returns c docs told file items journal hash text swarmed =
    let of = swarmed.is in
    let own = of.journal in
    let is = of.is_true in
    let legal = is.legal in
    addresses-six (setup_given swarmed.given) (c.trackers_nodes_are_built_in.ensures docs) own.entries legal.answers hash of.peers of.told
