use Rattle.flux_items.proofs.OneAnswer.{answers_items, answers_fault}
use Rattle.flux_items.proofs.items.read_items.Goals as goal

pub returns-clause-items : goal.returns-clause-items
returns-clause-items c items all = answers_items c.args.rules.now c.requires c.args.bytes.now c.read_all.result c.read_all.ensures items all

pub returns-clause-fault : goal.returns-clause-fault
returns-clause-fault c fault is = answers_fault c.args.rules.now c.requires c.args.bytes.now c.read_all.result c.read_all.ensures fault is
