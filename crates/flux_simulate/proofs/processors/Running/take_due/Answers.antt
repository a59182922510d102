use Rattle.std.proofs.Common.{subst, sym, ap, length, arith}
use Rattle.flow_orders.specs.declared.runs.Run.{Run}
use Rattle.flux_simulate.specs.steps.Changes.{IsFirstOf, TakesNext}
use Rattle.flux_simulate.proofs.Placing.{taken-out, same-place}
use Rattle.flux_simulate.proofs.processors.Running.take_due.Goals as goal

pub returns : goal.returns
returns c =
    let first = subst (λ runs. IsFirstOf runs (length runs) c.first_to_stop-place.result) c.as_slice.ensures.value
    c.first_to_stop-place.ensures in (
      subst (λ old. TakesNext old c.remove.new.self.items c.remove.result) c.self.view_is
          (subst (λ new. TakesNext c.self.inside.runs.items new c.remove.result) (sym c.remove.ensures.items)
          (taken-out c.self.inside.runs.items c.first_to_stop-place.result c.remove.result first
          c.remove.ensures.value)),
      let same = ap (λ (r : Run). r.stop) (same-place c.self.inside.runs.items c.first_to_stop-place.result
          c.remove.result c.index.result.now first.within c.remove.ensures.value c.index.ensures) in
          omega (arith, same, c.if-index-tick.false),
    )
