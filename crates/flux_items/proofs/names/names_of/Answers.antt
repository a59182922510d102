use Rattle.flux_items.proofs.Named.{named_more}
use Rattle.flux_items.proofs.names.names_of.Goals as goal

pub loop-name-preserved : goal.loop-name-preserved
loop-name-preserved c =
    named_more c.args.rules.now c.requires c.as_slice-name-items.result.now c.loop-name.names c.add.new.self c.loop-name.name-index c.name-item.result c.as_bytes.result.now
    c.as_slice-name-items.ensures c.loop-name.invariant c.loop-name-test.true c.name-item.is c.as_bytes.ensures.same c.in_ok-add.ensures.new_
