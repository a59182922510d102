use Rattle.std.proofs.Common.{sym, subst}
use Rattle.rt_all.specs.declared.any_runtime.AnyRuntime.{AnyRuntime}
use Rattle.rt_all.specs.Orders.{runtime_by}
use Rattle.flux_serve.specs.declared.orders.BatchOrder.{BatchOrder}
use Rattle.flux_driver.specs.steps.Orders.{KeepsOrder}
use Rattle.flux_driver.proofs.Driven.{keeps-order}
use Rattle.flux_driver.proofs.serving.runtime_in.Goals as goal

pub returns : goal.returns
returns c =
    let R : AnyRuntime → Type 0 = λ runtime. KeepsOrder runtime c.args.order.now in
    let O : BatchOrder → Type 0 = λ order. KeepsOrder (runtime_by c.args.words) order in
    subst R (sym c.by.ensures) (subst O (sym c.requires) (keeps-order c.args.words))
