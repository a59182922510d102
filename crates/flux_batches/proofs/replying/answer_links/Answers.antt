use Rattle.std.proofs.Common.{◌∙◌}
use Rattle.flux_batches.proofs.Giving.{answered-all}
use Rattle.flux_batches.proofs.replying.answer_links.Goals as goal

pub returns-clause-answered : goal.returns-clause-answered
returns-clause-answered g c =
    let see = g.D.Link.Link.seen in
    let there = c.make_contiguous-all.ensures in
    let long = c.answer_each.auto.links in
    answered-all see c.args.entries.now c.flows_of-flows.result c.args.links.items c.make_contiguous-all.result.now
    c.answer_each.new.links _ (g.D.Door.seen c.args.door.now).taken_back (g.D.Door.seen c.give_back_read.new.door).taken_back
    there.value (there.writes_back c.answer_each.new.links (long ∙ there.len)) long c.flows_of-flows.ensures.flows
    c.answer_each.ensures c.give_back_read.ensures.back
