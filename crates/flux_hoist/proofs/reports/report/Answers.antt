use Rattle.std.proofs.Common.{◌≡◌, ap, ◌∙◌}
use Rattle.flux_hoist.specs.Sets.{held_by}
use Rattle.flux_hoist.specs.Reports.{AreSaid}
use Rattle.flux_hoist.proofs.SaidPieces.{pieces_on}
use Rattle.flux_hoist.proofs.reports.report.Goals as goal

pub append_all_said-requires-clause-locks : goal.append_all_said-requires-clause-locks
append_all_said-requires-clause-locks c =
    rw (c.holds_of.ensures, c.as_slice-held.ensures) (c.requires.locks c.loop-number.number)

pub append_all_said-requires-clause-known : goal.append_all_said-requires-clause-known
append_all_said-requires-clause-known c =
    rw (c.holds_of.ensures, ← c.as_slice-nodes.ensures) (c.in_ok-declarers.ensures.known c.loop-number.number)

pub loop-number-preserved : goal.loop-number-preserved
loop-number-preserved c =
    let locks = held_by c.args.sets.now.nodes in
    let held : c.holds_of.result.now ≡ locks c.loop-number.number = c.holds_of.ensures ∙ ap (λ sets. held_by sets c.loop-number.number) c.as_slice-held.ensures in
    pieces_on (AreSaid c.args.p.now locks) c.loop-number.number c.loop-number.out c.append_all_said.new.out c.loop-number.invariant (rw held at c.in_ok-append_all_said.ensures)
