use Rattle.std.proofs.Common.{◌≡◌, length, ap, arith}
use Rattle.flux_batches.specs.Links.{items_from}
use Rattle.flux_serve.proofs.Unwritten.{few_items}
use Rattle.flux_serve.proofs.batches_at_once.begin.Goals as goal

pub open-requires-clause-few : goal.open-requires-clause-few
open-requires-clause-few g c =
    let links = c.args.links.now in
    let same : length c.in_ok-items.items ≡ length (items_from c.args.number links.items) = ap length c.in_ok-items.ensures.items in
    omega (arith, same, few_items c.args.number links.items, links.ok.0, c.requires.few)
