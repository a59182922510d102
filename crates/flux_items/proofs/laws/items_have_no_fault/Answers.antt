use Rattle.flux_items.proofs.OneAnswer.{no_items_and_fault}
use Rattle.flux_items.proofs.laws.items_have_no_fault.Goals as goal

pub returns : goal.returns
returns c = no_items_and_fault
