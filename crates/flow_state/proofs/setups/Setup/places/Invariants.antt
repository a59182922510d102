use Rattle.std.proofs.Common.{take}
use Rattle.std.specs.Arc.{arc_value}
use Rattle.flow_state.specs.steps.Starts.{AreFreshPlaces}
use Rattle.flow_state.proofs.setups.Setup.places.Given as goal

abbrev pub invariant-loop-item : goal.invariant-loop-item
invariant-loop-item g l = AreFreshPlaces (g.L.Meaning.meaning (arc_value l.self.library)) (arc_value l.self.program)
    (take l.item-index l.self.items) l.places.items
