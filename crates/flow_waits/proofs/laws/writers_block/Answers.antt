use Rattle.flow_waits.proofs.Blocked.{writers_block}
use Rattle.flow_waits.proofs.laws.writers_block.Goals as goal

pub returns : goal.returns
returns c = writers_block
