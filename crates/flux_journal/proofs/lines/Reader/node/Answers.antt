use Rattle.flux_journal.proofs.Lined.{none_named}
use Rattle.flux_journal.proofs.lines.Reader.node.Goals as goal

pub returns-clause-none : goal.returns-clause-none
returns-clause-none c = none_named c.args.self.now.program.now c.args.self.now.names c.args.name.now c.find_node.result c.requires c.find_node.ensures.none
