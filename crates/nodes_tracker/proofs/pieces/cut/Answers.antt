use Rattle.nodes_tracker.proofs.Cuts.{front_cut, behind_cut, front_whole, behind_none}
use Rattle.nodes_tracker.proofs.pieces.cut.Goals as goal

pub returns-in-Some-clause-front : goal.returns-in-Some-clause-front
returns-in-Some-clause-front c = front_cut c.args.mark c.args.bytes.now c.in-Some.at c.in-Some.ensures

pub returns-in-Some-clause-behind : goal.returns-in-Some-clause-behind
returns-in-Some-clause-behind c = behind_cut c.args.mark c.args.bytes.now c.in-Some.at c.in-Some.ensures

pub returns-in-None-clause-front : goal.returns-in-None-clause-front
returns-in-None-clause-front c = front_whole c.args.mark c.args.bytes.now c.in-None.ensures

pub returns-in-None-clause-behind : goal.returns-in-None-clause-behind
returns-in-None-clause-behind c = behind_none c.args.mark c.args.bytes.now c.in-None.ensures
