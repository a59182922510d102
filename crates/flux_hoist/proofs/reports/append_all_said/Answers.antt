use Rattle.std.proofs.Common.{arith}
use Rattle.std.proofs.lemmas.List.Elements.{Contains-get_or}
use Rattle.flux_hoist.specs.Reports.{IsSaid}
use Rattle.flux_hoist.proofs.SaidPieces.{gained_more}
use Rattle.flux_hoist.proofs.reports.append_all_said.Goals as goal

pub append_said-requires-clause-held : goal.append_said-requires-clause-held
append_said-requires-clause-held c = c.requires.locks.modes _ (Contains-get_or c.args.holds.now c.loop-hold.hold-index _ (omega arith))

pub loop-hold-preserved : goal.loop-hold-preserved
loop-hold-preserved c =
    gained_more (IsSaid c.args.p.now c.args.number) c.args.holds.now c.loop-hold.hold-index _ c.args.out.now c.loop-hold.out c.append_said.new.out (omega arith) c.loop-hold.invariant c.in_ok-append_said.ensures
