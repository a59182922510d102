use Rattle.std.proofs.Common.{true, sym, subst}
use Rattle.flow_core.specs.Runs.{GoesOn}
use Rattle.flow_turns.proofs.Settled.{goes-flag}
use Rattle.flow_turns.proofs.settling.give_up.Goals as goal

pub returns-clause-on : goal.returns-clause-on
returns-clause-on g c = subst (GoesOn c.args.core) (sym c.halt.ensures) (goes-flag c.args.core true)
