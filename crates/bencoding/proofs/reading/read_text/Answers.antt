use Rattle.bencoding.proofs.ValuesRead.{text_stuck}
use Rattle.bencoding.proofs.reading.read_text.Goals as goal

pub returns-in-Err : goal.returns-in-Err
returns-in-Err c = text_stuck c.args.depth c.args.bytes.now c.in-Err.at c.requires c.in-Err.ensures
