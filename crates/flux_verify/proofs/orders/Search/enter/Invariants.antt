use Rattle.std.proofs.Common.{◌≡◌, ◌++◌, ◌∷◌, map, take}
use Rattle.flux_model.specs.Visits.{with_number}
use Rattle.flux_verify.specs.declared.orders.Task.TheVariants.{Enter, Settle}
use Rattle.flux_verify.proofs.orders.Search.enter.Given as goal

abbrev pub invariant-loop-led : goal.invariant-loop-led
invariant-loop-led l =
    (l.self.known ≡ l.fn.self.known)
    × (l.self.entered ≡ with_number l.fn.self.entered l.fn.node.0)
    × (l.self.tasks ≡ l.fn.self.tasks ++ Settle l.fn.node ∷ map Enter (take l.led-index l.led-items))
