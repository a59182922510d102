use Rattle.std.proofs.Common.{◌≡◌, take}
use Rattle.flow_state.specs.steps.Cells.{keys_by}
use Rattle.flow_state.proofs.keys.keys_in.Given as goal

abbrev pub invariant-loop-hold : goal.invariant-loop-hold
invariant-loop-hold l = l.keys.items ≡ keys_by l.p l.session (take l.hold-index l.declared)
