use Rattle.std.proofs.Common.{◌∙◌, arith}
use Rattle.flux_graph.proofs.LeaderLists.{first_next, first_end}
use Rattle.flux_graph.proofs.leaving.leaders.Goals as goal

pub loop-number-preserved : goal.loop-number-preserved
loop-number-preserved c =
    let many = c.loop-number.invariant.many in
    let all = c.in_ok-add_leader_of_all.ensures in
    record {
      many = all.many ∙ many;
      have = first_next c.args.nodes.now c.loop-number.number c.index-nodes-number.result c.as_slice.result.now c.loop-number.leaders.items c.add_leader_of_all.new.leaders.items (omega arith)
          c.index-nodes-number.is (c.as_slice.ensures ∙ c.in_ok-led.ensures) many c.loop-number.invariant.have all;
    }

pub returns : goal.returns
returns c = first_end c.args.nodes.now c.loop-number.number c.loop-number.leaders.items c.loop-number-test.false c.loop-number.invariant.have
