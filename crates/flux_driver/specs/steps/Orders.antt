-- Runtimes that keep an order.
use Rattle.std.specs.Prelude.{List, []}
use Rattle.flow_model.specs.declared.journals.Entry.{Entry}
use Rattle.flow_model.specs.Setup.{Setup}
use Rattle.rt_all.specs.declared.any_runtime.AnyRuntime.{AnyRuntime}
use Rattle.rt_all.specs.Orders.{IsOrder}
use Rattle.flux_serve.specs.declared.orders.BatchOrder.{BatchOrder}
use Rattle.flux_serve.specs.Orders.{IsInOrder}

-- what a runtime drives from an empty journal on is in an order
abbrev pub KeepsOrder : AnyRuntime → BatchOrder → Type 0
KeepsOrder runtime order = (setup : Setup) (entries : List Entry) → IsOrder runtime setup [] entries
    → IsInOrder order setup entries
