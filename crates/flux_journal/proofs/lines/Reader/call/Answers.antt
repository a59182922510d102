use Rattle.flux_journal.proofs.Lined.{call_read, call_no_node}
use Rattle.flux_journal.proofs.lines.Reader.call.Goals as goal

pub returns-in-Some-node : goal.returns-in-Some-node
returns-in-Some-node c =
    call_read c.args.self.now.program.now c.requires.named c.args.text.now c.in-Some.name.now c.in-Some.text.now c.in-Some-node.node c.in-Some.ensures.found c.in-Some-node.ensures.found c.read_call.result c.read_call.ensures

pub returns-in-None : goal.returns-in-None
returns-in-None c = call_no_node c.args.self.now.program.now c.requires.named c.args.text.now c.in-Some.name.now c.in-Some.text.now c.in-Some.ensures.found c.in-None.ensures.none
