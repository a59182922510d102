use Rattle.std.proofs.Common.{◌≡◌, None, fold, take}
use Rattle.flux_model.specs.Kinds.{sig_at}
use Rattle.flux_types.specs.Rows.{word_sig}
use Rattle.flux_types.specs.steps.Passing.{kind_in, flow_passed}
use Rattle.flux_types.proofs.flows.FlowPlaces.of.Given as goal

abbrev pub invariant-loop-decl : goal.invariant-loop-decl
invariant-loop-decl l = l.places ≡ fold (flow_passed (word_sig l.signed.names (sig_at l.signed.sigs.now)) (kind_in l.predicates.names l.predicates.kinds)) (record { joins = None; counts = None; ends = None; predicates = None }) (take l.decl-index l.decls)
