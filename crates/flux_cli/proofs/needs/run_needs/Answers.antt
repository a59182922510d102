use Rattle.std.proofs.Common.{ap}
use Rattle.flux_cli.specs.declared.names.CommandName.TheVariants.{Run}
use Rattle.flux_cli.specs.steps.Given.{files_of}
use Rattle.flux_cli.proofs.Forms.{run_of_too_much, run_of_serving, run_of_simulating, run_of_files, run_of_format}
use Rattle.flux_cli.proofs.AskingThreads.{nothing_asks, run_asks}
use Rattle.flux_cli.proofs.needs.run_needs.Goals as goal

pub returns-in_default : goal.returns-in_default
returns-in_default c = nothing_asks Run c.args.words.now (run_of_too_much c.args.words.now c.in_default.ensures.none)

pub returns-in_default-files : goal.returns-in_default-files
returns-in_default-files c = nothing_asks Run c.args.words.now
    (run_of_files c.args.words.now c.in-Some.given c.in-Some.ensures.found c.in_default-files.not-Two)

pub returns-in_default-read_format : goal.returns-in_default-read_format
returns-in_default-read_format c = nothing_asks Run c.args.words.now
    (run_of_format c.args.words.now c.in-Some.given c.in-Some.ensures.found c.in_default-read_format.ensures)

pub returns : goal.returns
returns c = run_asks c.args.words.now c.in-Some.given c.in-Some.ensures.found c.is_threaded.result c.is_threaded.ensures
    c.in-Two.field-0.now c.in-Two.field-1.now c.in-Some-read_format.field-0 (ap files_of c.in-Two.is) c.in-Some-read_format.ensures
    (c.serves.ensures.none c.if-serves.false).0 (c.serves.ensures.none c.if-serves.false).1
    (c.serves.ensures.none c.if-serves.false).2
    (c.simulates.ensures.none c.if-simulates.false).0 (c.simulates.ensures.none c.if-simulates.false).1

pub returns-then-serves : goal.returns-then-serves
returns-then-serves c = nothing_asks Run c.args.words.now (run_of_serving c.args.words.now c.in-Some.given c.in-Some.ensures.found (c.serves.ensures.some c.if-serves.true))

pub returns-then-simulates : goal.returns-then-simulates
returns-then-simulates c = nothing_asks Run c.args.words.now (run_of_simulating c.args.words.now c.in-Some.given c.in-Some.ensures.found (c.simulates.ensures.some c.if-simulates.true))
