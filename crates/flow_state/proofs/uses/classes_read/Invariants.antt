use Rattle.std.proofs.Common.{◌≡◌, map, take}
use Rattle.flow_state.specs.steps.Cells.{classes_of}
use Rattle.flow_state.proofs.uses.classes_read.Given as goal

abbrev pub invariant-loop-node : goal.invariant-loop-node
invariant-loop-node g l = l.reads ≡ map (classes_of (g.L.Meaning.meaning l.library) l.p) (take l.node-index l.p.nodes)
