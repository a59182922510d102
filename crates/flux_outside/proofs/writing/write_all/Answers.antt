use Rattle.std.proofs.lemmas.List.{take_rest}
use Rattle.flux_outside.proofs.Writes.{so_far_more}
use Rattle.flux_outside.proofs.writing.write_all.Goals as goal

pub loop-rest-preserved : goal.loop-rest-preserved
loop-rest-preserved g c =
    let rest = c.loop-rest.rest.now in
    let n = c.in_ok-count.count in
    rw (take_rest rest n)
    (so_far_more (g.O.Sink.seen c.args.out.now) (g.O.Sink.seen c.loop-rest.out) (g.O.Sink.seen c.write.new.self) c.args.bytes.now rest n c.loop-rest.invariant c.in_ok-count.ensures.bytes c.in_ok-count.ensures.cause.steady)
