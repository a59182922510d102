use Rattle.flux_journal.proofs.Keying.{if_none}
use Rattle.flux_journal.proofs.Lined.{exit_no_node, exit_no_outcome}
use Rattle.flux_journal.proofs.lines.Reader.exit.Goals as goal

pub returns-in_err-node-clause-none : goal.returns-in_err-node-clause-none
returns-in_err-node-clause-none c =
    if_none c.from_residual-in_err-node.result (exit_no_node c.args.self.now.program.now c.requires.named c.args.text.now c.in_ok-name.name.now c.in_ok-name.outcome.now c.in_ok-name.ensures.found c.in_err-node.ensures.none)

pub returns-in_err-outcome-clause-none : goal.returns-in_err-outcome-clause-none
returns-in_err-outcome-clause-none c =
    if_none c.from_residual-in_err-outcome.result (exit_no_outcome c.args.self.now.program.now c.requires.named c.args.text.now c.in_ok-name.name.now c.in_ok-name.outcome.now c.in_ok-name.ensures.found c.in_err-outcome.ensures.none)
