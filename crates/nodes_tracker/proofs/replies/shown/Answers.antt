use Rattle.std.proofs.Common.{sym, arith, take_all, length-take-le}
use Rattle.nodes_tracker.proofs.replies.shown.Goals as goal

pub slice_bounds-result-end : goal.slice_bounds-result-end
slice_bounds-result-end c = sym (length-take-le 50 c.args.peers.now (omega (arith, c.if-peers-gt-SHOWN_LIMIT.true)))

pub returns-else-peers-gt-SHOWN_LIMIT : goal.returns-else-peers-gt-SHOWN_LIMIT
returns-else-peers-gt-SHOWN_LIMIT c =
    sym (take_all 50 c.args.peers.now (omega (arith, c.if-peers-gt-SHOWN_LIMIT.false)))
