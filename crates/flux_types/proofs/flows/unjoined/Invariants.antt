use Rattle.std.proofs.Common.{◌≡◌, length}
use Rattle.flux_model.specs.Kinds.{sig_at}
use Rattle.flux_syntax.specs.Least.{soonest}
use Rattle.flux_types.specs.Rows.{word_sig, unjoined, unjoined_after}
use Rattle.flux_types.proofs.flows.unjoined.Given as goal

abbrev pub invariant-loop-rest : goal.invariant-loop-rest
invariant-loop-rest l =
    let sigs = word_sig l.signed.names (sig_at l.signed.sigs.now) in
    soonest l.fn.place (unjoined sigs l.fn.members) ≡ soonest l.place (unjoined_after sigs l.from l.rest)

abbrev pub decreases-loop-rest : goal.decreases-loop-rest
decreases-loop-rest l = length l.rest
