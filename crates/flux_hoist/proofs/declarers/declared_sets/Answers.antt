use Rattle.std.proofs.Common.{arith}
use Rattle.std.proofs.lemmas.List.{length_push}
use Rattle.flux_hoist.proofs.Declared.{own_next, own_end}
use Rattle.flux_hoist.proofs.declarers.declared_sets.Goals as goal

pub loop-node-preserved : goal.loop-node-preserved
loop-node-preserved c =
    let set = c.in_ok-declared_set.field-0 in
    rw c.in_ok-add.ensures.added (record {
      many = let longer = length_push c.loop-node.sets set in omega (arith, longer, c.loop-node.invariant.many);
      each = own_next c.args.nodes.now c.loop-node.sets set c.loop-node.node-index c.node-item.result (omega arith) c.loop-node.invariant.many c.loop-node.invariant.each (rw (← c.node-item.is) c.in_ok-declared_set.ensures);
    })

pub returns : goal.returns
returns c = own_end c.args.nodes.now c.loop-node.sets c.loop-node.node-index c.loop-node-test.false c.loop-node.auto.node-index-end c.loop-node.invariant.many c.loop-node.invariant.each
