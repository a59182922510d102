use Rattle.std.proofs.Common.{List, sym, subst}
use Rattle.flow_model.specs.declared.journals.Entry.{Entry}
use Rattle.flow_model.specs.Setup.{Setup}
use Rattle.flux_serve.specs.declared.orders.BatchOrder.{BatchOrder}
use Rattle.flux_serve.specs.Orders.{IsInOrder}
use Rattle.flux_serve.proofs.runs.run.Goals as goal

pub returns-in-Ok-clause-order : goal.returns-in-Ok-clause-order
returns-in-Ok-clause-order g c =
    let All : BatchOrder → Type 0 = λ order. (setup : Setup) (entries : List Entry) → IsInOrder order setup entries in
    subst All (sym c.requires.any) (λ setup entries. tt) _ _
