use Rattle.std.proofs.Common.{subst}
use Rattle.std.specs.Prelude.{OnOk, IfErr}
use Rattle.flux_model.specs.declared.programs.Program.{Program}
use Rattle.flux_cells.specs.Kept.{cells_of}
use Rattle.flux_outside.specs.Streams.{Wrote}
use Rattle.flux_journal.specs.Logs.{printed_batch}
use Rattle.flux_serve.specs.Ends.{sight_of}
use Rattle.flux_serve.specs.steps.Batches.{service_in, HasFinished}
use Rattle.flux_serve.proofs.Driven.{passed_if, stopped_if, stopped_none}
use Rattle.flux_serve.proofs.AtOnceDriven.{none_stops, stops_if}
use Rattle.flux_serve.proofs.loops.serve_batch.Goals as goal

pub returns-in-Ok-clause-passed : goal.returns-in-Ok-clause-passed
returns-in-Ok-clause-passed g c =
    let log = g.O.Sink.seen c.args.log.now in
    let log' = g.O.Sink.seen c.log_batch.new.log in
    let run' = c.in-Ok.run' in
    let P : Program → Type 0 = λ p. OnOk c.log_batch.result (Wrote log log' (printed_batch p c.args.count run'.items run'.journal)) in
    passed_if g.D.Link.Link.seen (service_in g.L.Meaning.meaning c.args.served.now) (cells_of c.args.opening) c.args.count c.args.number (sight_of (g.D.Door.seen c.args.door.now) log) (sight_of (g.D.Door.seen c.drive_next.new.door) log) log' run'
    (c.in-Ok.ensures.ran log) c.log_batch.result c.log_batch.ensures.left (subst P c.deref.ensures c.log_batch.ensures.wrote)

pub returns-in-Ok-clause-stopped : goal.returns-in-Ok-clause-stopped
returns-in-Ok-clause-stopped g c =
    let log = g.O.Sink.seen c.args.log.now in
    let log' = g.O.Sink.seen c.log_batch.new.log in
    let run' = c.in-Ok.run' in
    let service = service_in g.L.Meaning.meaning c.args.served.now in
    let F : Program → Type 0 = λ p. IfErr c.log_batch.result (λ end. HasFinished end log log' (printed_batch p c.args.count run'.items run'.journal)) in
    stops_if g.D.Link.Link.seen service (cells_of c.args.opening) c.args.count c.args.number (sight_of (g.D.Door.seen c.args.door.now) log) (sight_of (g.D.Door.seen c.drive_next.new.door) log') c.log_batch.result
    (stopped_if g.D.Link.Link.seen service (cells_of c.args.opening) c.args.count c.args.number (sight_of (g.D.Door.seen c.args.door.now) log) (sight_of (g.D.Door.seen c.drive_next.new.door) log) log' run'
    (c.in-Ok.ensures.ran log) c.log_batch.result (subst F c.deref.ensures c.log_batch.ensures.ends))

pub returns-in-Err-clause-stopped : goal.returns-in-Err-clause-stopped
returns-in-Err-clause-stopped g c =
    let log = g.O.Sink.seen c.args.log.now in
    none_stops g.D.Link.Link.seen (service_in g.L.Meaning.meaning c.args.served.now) (cells_of c.args.opening) c.args.count c.args.number (sight_of (g.D.Door.seen c.args.door.now) log) (sight_of (g.D.Door.seen c.drive_next.new.door) log) c.in-Err.end (c.in-Err.ensures.none log)

pub returns-in-Ok-clause-before : goal.returns-in-Ok-clause-before
returns-in-Ok-clause-before g c alone =
    let log = g.O.Sink.seen c.args.log.now in
    let log' = g.O.Sink.seen c.log_batch.new.log in
    let run' = c.in-Ok.run' in
    let service = service_in g.L.Meaning.meaning c.args.served.now in
    let F : Program → Type 0 = λ p. IfErr c.log_batch.result (λ end. HasFinished end log log' (printed_batch p c.args.count run'.items run'.journal)) in
    stopped_if g.D.Link.Link.seen service (cells_of c.args.opening) c.args.count c.args.number (sight_of (g.D.Door.seen c.args.door.now) log) (sight_of (g.D.Door.seen c.drive_next.new.door) log) log' run'
    (c.in-Ok.ensures.ran log) c.log_batch.result (subst F c.deref.ensures c.log_batch.ensures.ends)

pub returns-in-Err-clause-before : goal.returns-in-Err-clause-before
returns-in-Err-clause-before g c alone =
    let log = g.O.Sink.seen c.args.log.now in
    stopped_none g.D.Link.Link.seen (service_in g.L.Meaning.meaning c.args.served.now) (cells_of c.args.opening) c.args.count c.args.number (sight_of (g.D.Door.seen c.args.door.now) log) (sight_of (g.D.Door.seen c.drive_next.new.door) log) c.in-Err.end (c.in-Err.ensures.before alone log)
