use Rattle.std.proofs.Common.{sym, subst}
use Rattle.std.proofs.lemmas.Result.{IfOk-weaker}
use Rattle.flux_hoist.specs.Sets.{held_by}
use Rattle.flux_hoist.specs.Counted.{AreCounted}
use Rattle.flux_hoist.proofs.SizesCounted.{sizes_counted}
use Rattle.flux_hoist.proofs.sizes.node_sizes.Goals as goal

pub returns : goal.returns
returns c =
    let nodes = c.args.p.now.nodes in
    let locks = held_by c.args.sets.now.nodes in
    IfOk-weaker c.sizes_along.result _ _
    (λ sizes is. subst (AreCounted nodes locks) (sym (rw (c.as_slice.ensures, c.as_slice-2.ensures, c.as_slice-3.ensures) at is)) (sizes_counted locks nodes c.args.order.now.nodes c.requires.ordered)) c.sizes_along.ensures
