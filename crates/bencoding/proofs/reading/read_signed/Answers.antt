use Rattle.std.proofs.lemmas.List.{take_rest}
use Rattle.bencoding.proofs.ValuesRead.{int_stuck}
use Rattle.bencoding.proofs.reading.read_signed.Goals as goal

pub returns-in-Err : goal.returns-in-Err
returns-in-Err c =
    let stuck = rw (take_rest, c.least.ensures, c.greatest.ensures, c.mark_length-at.ensures) at c.in-Err.ensures in
    rw c.mark_length-at.ensures (int_stuck c.args.depth c.args.bytes.now c.args.negative c.in-Err.more c.requires stuck)
