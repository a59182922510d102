use Rattle.std.proofs.Common.{◌∙◌}
use Rattle.std.proofs.Math.Logic.{∥∥₁_elim}
use Rattle.std.proofs.Props.{props}
use Rattle.std.proofs.lemmas.Result.{IfOk-weaker}
use Rattle.flux_hoist.specs.Sets.{held_by}
use Rattle.flux_hoist.proofs.SizesCounted.{sizes_counted}
use Rattle.flux_hoist.proofs.PlanSizes.{counted_plan}
use Rattle.flux_hoist.specs.steps.Sizing.{put_sizes}
use Rattle.flux_hoist.proofs.plans.print_plan.Goals as goal

pub returns : goal.returns
returns g c =
    let p = c.args.checked.now.program in
    let locks = held_by c.args.checked.now.sets.nodes in
    let order = c.args.checked.now.order.nodes in
    IfOk-weaker c.plan_along.result _ _
    (λ text is. ∥∥₁_elim c.args.checked.now.keeps (hlevel props) (λ kept.
    (rw (c.as_slice.ensures, c.as_slice-2.ensures, c.as_slice-3.ensures) at is)
    ∙ counted_plan (g.L.Meaning.meaning c.args.library.now) p c.args.checked.now.sigs.nodes locks (put_sizes locks p.nodes order) (sizes_counted locks p.nodes order kept.ordered) kept.small))
    c.plan_along.ensures
