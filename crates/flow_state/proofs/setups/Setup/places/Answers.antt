use Rattle.std.specs.Arc.{arc_value}
use Rattle.flow_state.proofs.Opened.{fresh-next}
use Rattle.flow_state.proofs.setups.Setup.places.Goals as goal

pub loop-item-preserved : goal.loop-item-preserved
loop-item-preserved g c =
    fresh-next (g.L.Meaning.meaning (arc_value c.args.self.now.library)) (arc_value c.args.self.now.program)
    c.args.self.now.items c.as_slice-item-items.result.now
    c.loop-item.places.items c.push.new.self.items c.loop-item.item-index c.item-item.result c.in_ok-place.field-0
    c.as_slice-item-items.ensures c.loop-item-test.true c.item-item.is
    c.loop-item.invariant c.in_ok-place.ensures c.in_ok-push.ensures.items
