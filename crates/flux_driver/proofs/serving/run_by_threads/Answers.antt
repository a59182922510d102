use Rattle.std.specs.Arc.{arc_value}
use Rattle.std.proofs.Common.{List, sym, subst}
use Rattle.flow_model.specs.declared.journals.Entry.{Entry}
use Rattle.flow_core.specs.States.{CoreState, setup_in, opened}
use Rattle.rt_all.specs.declared.any_runtime.AnyRuntime.{AnyRuntime}
use Rattle.rt_all.specs.Orders.{IsOrder}
use Rattle.flux_serve.specs.Orders.{IsInOrder}
use Rattle.flux_driver.specs.steps.Orders.{KeepsOrder}
use Rattle.flux_driver.proofs.serving.run_by_threads.Goals as goal

pub returns-in-Ok-clause-order : goal.returns-in-Ok-clause-order
returns-in-Ok-clause-order g c =
    let meaning = g.L.Meaning.meaning in
    let served = c.args.served.now in
    let driven = c.in-Ok.core in
    let first : CoreState g.row.L.Denot = opened (arc_value served.program) (arc_value served.plans) c.args.items c.args.opening (arc_value served.library) in
    let Q : CoreState g.row.L.Denot → Type 0 = λ core. IsOrder c.args.runtime.now (setup_in meaning core) core.entries driven.entries in
    let E : List Entry → Type 0 = λ entries. IsInOrder served.order (setup_in meaning first) entries in
    subst E (sym c.into_parts.ensures.journal) (c.requires.keeps _ _ (subst Q c.in_ok-core.ensures c.in-Ok.ensures.order))

pub returns-in-Ok-clause-keeps : goal.returns-in-Ok-clause-keeps
returns-in-Ok-clause-keeps g c =
    let served = c.args.served.now in
    let R : AnyRuntime → Type 0 = λ runtime. KeepsOrder runtime served.order in
    subst R (sym c.drive_by_threads.ensures.same) c.requires.keeps
