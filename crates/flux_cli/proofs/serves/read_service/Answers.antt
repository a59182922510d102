use Rattle.std.proofs.Common.{ap}
use Rattle.flux_cli.specs.steps.Given.{files_of}
use Rattle.flux_cli.proofs.Forms.{some_given, none_given, serve_of_too_much, serve_of_files, serve_of_journal, serve_of_simulating, serve_of_port, serve_of_batches, serve_given}
use Rattle.flux_cli.proofs.serves.read_service.Goals as goal

pub returns-in_err-given : goal.returns-in_err-given
returns-in_err-given c = rw c.from_residual.ensures (serve_of_too_much c.args.words.now c.in_err-given.ensures.none)

pub returns-in_default : goal.returns-in_default
returns-in_default c = serve_of_files c.args.words.now c.in_ok-given.given c.in_ok-given.ensures.found c.in_default.not-One

pub returns-then-is_some : goal.returns-then-is_some
returns-then-is_some c = serve_of_journal c.args.words.now c.in_ok-given.given c.in_ok-given.ensures.found (some_given c.in_ok-given.given.journal c.is_some.result c.is_some.ensures c.if-is_some.true)

pub returns-in_err-port : goal.returns-in_err-port
returns-in_err-port c = rw c.from_residual-in_err-port.ensures (serve_of_port c.args.words.now c.in_ok-given.given c.in_ok-given.ensures.found c.in_err-port.ensures)

pub returns-in_err-batches : goal.returns-in_err-batches
returns-in_err-batches c = rw c.from_residual-in_err-batches.ensures (serve_of_batches c.args.words.now c.in_ok-given.given c.in_ok-given.ensures.found c.in_err-batches.ensures)

pub returns : goal.returns
returns c = serve_given c.args.words.now c.in_ok-given.given c.in_ok-given.ensures.found c.in-One.file c.in_ok-port.port c.in_ok-batches.batches (ap files_of c.in-One.is) c.in_ok-port.ensures c.in_ok-batches.ensures
    (none_given c.in_ok-given.given.journal c.is_some.result c.is_some.ensures c.if-is_some.false)
    (c.simulates.ensures.none c.if-simulates.false).0 (c.simulates.ensures.none c.if-simulates.false).1

pub returns-then-simulates : goal.returns-then-simulates
returns-then-simulates c = serve_of_simulating c.args.words.now c.in_ok-given.given c.in_ok-given.ensures.found (c.simulates.ensures.some c.if-simulates.true)
