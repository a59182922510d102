use Rattle.nodes_web.proofs.Endings.{path_cut, path_whole}
use Rattle.nodes_web.proofs.requests.path_of.Goals as goal

pub returns-in-Some : goal.returns-in-Some
returns-in-Some c = path_cut c.args.target.now c.in-Some.at c.in-Some.ensures.0 c.in-Some.ensures.1

pub returns-in-None : goal.returns-in-None
returns-in-None c = path_whole c.args.target.now c.in-None.ensures
