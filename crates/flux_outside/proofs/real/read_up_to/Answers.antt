use Rattle.std.proofs.Common.{arith}
use Rattle.flux_outside.proofs.Consumed.{takes_block}
use Rattle.flux_outside.proofs.real.read_up_to.Goals as goal

pub returns-then-taken-max-clause-taken : goal.returns-then-taken-max-clause-taken
returns-then-taken-max-clause-taken g c =
    takes_block (g.F.Read.remaining c.args.file.now.reader) (g.F.Read.remaining c.reading.file.reader) (g.F.Read.remaining c.read.new.file.reader)
    c.reading.body c.read.new.buffer c.in_ok-taken.taken c.args.max 8192 c.reading.invariant.1 c.reading.invariant.0 c.in_ok-taken.ensures.bytes.0 search

pub returns-in_err-append-clause-taken : goal.returns-in_err-append-clause-taken
returns-in_err-append-clause-taken g c =
    takes_block (g.F.Read.remaining c.args.file.now.reader) (g.F.Read.remaining c.reading.file.reader) (g.F.Read.remaining c.read.new.file.reader)
    c.reading.body c.read.new.buffer c.in_ok-taken.taken c.args.max 8192 c.reading.invariant.1 c.reading.invariant.0 c.in_ok-taken.ensures.bytes.0 search
