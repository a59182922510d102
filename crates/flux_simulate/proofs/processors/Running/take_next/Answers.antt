use Rattle.std.proofs.Common.{subst, sym, length}
use Rattle.flux_simulate.specs.steps.Changes.{IsFirstOf, TakesNext}
use Rattle.flux_simulate.proofs.Placing.{taken-out}
use Rattle.flux_simulate.proofs.processors.Running.take_next.Goals as goal

pub returns : goal.returns
returns c =
    subst (λ old. TakesNext old c.remove.new.self.items c.remove.result) c.self.view_is
    (subst (λ new. TakesNext c.self.inside.runs.items new c.remove.result) (sym c.remove.ensures.items)
    (taken-out c.self.inside.runs.items c.first_to_stop-place.result c.remove.result
    (subst (λ runs. IsFirstOf runs (length runs) c.first_to_stop-place.result) c.as_slice.ensures.value
    c.first_to_stop-place.ensures) c.remove.ensures.value))
