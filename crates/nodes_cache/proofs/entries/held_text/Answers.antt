use Rattle.std.proofs.Common.{arith}
use Rattle.nodes_cache.proofs.EntryLemmas.{text_fits}
use Rattle.nodes_cache.proofs.entries.held_text.Goals as goal

pub returns-clause-fits : goal.returns-clause-fits
returns-clause-fits c = text_fits c.args.bytes.now c.requires (λ i. let h = c.type_inv.bytes i in omega (arith, h))
