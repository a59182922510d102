use Rattle.std.proofs.Common.{refl, sym, ◌∙◌, subst, arith}
use Rattle.flux_cells.specs.Kept.{Kept, cells_of}
use Rattle.flux_serve.specs.Ends.{sight_of}
use Rattle.flux_serve.specs.steps.Batches.{service_in}
use Rattle.flux_serve.proofs.OneByOne.{SoFar, so_far_none, so_far_more, served_some}
use Rattle.flux_serve.proofs.AtOnceByOne.{at_once_some}
use Rattle.flux_serve.proofs.loops.serve_batches.Goals as goal

pub batches-init : goal.batches-init
batches-init g c =
    let service = service_in g.L.Meaning.meaning c.args.served.now in
    let before = sight_of (g.D.Door.seen c.args.door.now) (g.O.Sink.seen c.args.log.now) in
    let P : Kept → Type 0 = λ k. SoFar g.D.Link.Link.seen service before before 0 0 (cells_of k) in
    (subst P (sym c.new-opening.ensures) (so_far_none g.D.Link.Link.seen service before), c.requires.may, c.requires.out, omega arith, (omega arith, omega arith), omega arith, refl)

pub returns-in-Err-clause-served : goal.returns-in-Err-clause-served
returns-in-Err-clause-served g c =
    let service = service_in g.L.Meaning.meaning c.args.served.now in
    let before = sight_of (g.D.Door.seen c.args.door.now) (g.O.Sink.seen c.args.log.now) in
    let mid = sight_of (g.D.Door.seen c.batches.door) (g.O.Sink.seen c.batches.log) in
    let after = sight_of (g.D.Door.seen c.serve_batch.new.door) (g.O.Sink.seen c.serve_batch.new.log) in
    at_once_some g.D.Link.Link.seen service before mid after c.batches.count c.batches.number (cells_of c.batches.opening) c.args.batches c.in-Err.end c.batches.invariant.0 (omega arith) c.in-Err.ensures.stopped

pub returns-in-Err-clause-before : goal.returns-in-Err-clause-before
returns-in-Err-clause-before g c alone =
    let service = service_in g.L.Meaning.meaning c.args.served.now in
    let before = sight_of (g.D.Door.seen c.args.door.now) (g.O.Sink.seen c.args.log.now) in
    let mid = sight_of (g.D.Door.seen c.batches.door) (g.O.Sink.seen c.batches.log) in
    let after = sight_of (g.D.Door.seen c.serve_batch.new.door) (g.O.Sink.seen c.serve_batch.new.log) in
    served_some g.D.Link.Link.seen service before mid after c.batches.count c.batches.number (cells_of c.batches.opening) c.args.batches c.in-Err.end c.batches.invariant.0 (omega arith) (c.in-Err.ensures.before alone)

pub batches-preserved : goal.batches-preserved
batches-preserved g c =
    let service = service_in g.L.Meaning.meaning c.args.served.now in
    let before = sight_of (g.D.Door.seen c.args.door.now) (g.O.Sink.seen c.args.log.now) in
    let mid = sight_of (g.D.Door.seen c.batches.door) (g.O.Sink.seen c.batches.log) in
    let after = sight_of (g.D.Door.seen c.serve_batch.new.door) (g.O.Sink.seen c.serve_batch.new.log) in (
      so_far_more g.D.Link.Link.seen service before mid after c.batches.count c.batches.number (cells_of c.batches.opening) c.in-Ok.next (cells_of c.in-Ok.cells) c.batches.invariant.0 c.in-Ok.ensures.passed,
      c.in-Ok.ensures.again,
      c.in-Ok.ensures.out,
      omega (arith, c.in-Ok.ensures.bound, c.batches.invariant.3),
      (omega (arith, c.batches.invariant.4.0, c.in-Ok.ensures.later.0), omega (arith, c.batches.invariant.4.1, c.in-Ok.ensures.later.1)),
      omega (arith, c.batches.invariant.5, c.in-Ok.ensures.later_log),
      c.serve_batch.ensures.open ∙ c.batches.invariant.6,
    )
