use Rattle.flux_items.proofs.ItemReads.{no_size}
use Rattle.flux_items.proofs.items.size_at.Goals as goal

pub returns-in-None-clause-value : goal.returns-in-None-clause-value
returns-in-None-clause-value c = no_size c.args.rules.now.sizes c.args.item.now.source.0 c.in-None.ensures
