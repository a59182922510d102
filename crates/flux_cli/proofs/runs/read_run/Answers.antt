use Rattle.flux_cli.proofs.Forms.{run_of_too_much, run_of_serving, run_of_simulating, run_of_files, run_of_format, run_of_runtime}
use Rattle.flux_cli.proofs.runs.read_run.Goals as goal

pub returns-in_default : goal.returns-in_default
returns-in_default c = run_of_too_much c.args.words.now c.in_default.ensures.none

pub returns-in_default-files : goal.returns-in_default-files
returns-in_default-files c = run_of_files c.args.words.now c.in-Some.given c.in-Some.ensures.found c.in_default-files.not-Two

pub returns-in_default-read_format : goal.returns-in_default-read_format
returns-in_default-read_format c = run_of_format c.args.words.now c.in-Some.given c.in-Some.ensures.found c.in_default-read_format.ensures

pub returns-in_default-2 : goal.returns-in_default-2
returns-in_default-2 c =
    let none = rw c.in_default-2.is at c.in_ok-runtime.ensures in
    run_of_runtime c.args.words.now c.in-Some.given c.in-Some.ensures.found none

pub returns-then-serves : goal.returns-then-serves
returns-then-serves c = run_of_serving c.args.words.now c.in-Some.given c.in-Some.ensures.found (c.serves.ensures.some c.if-serves.true)

pub returns-then-simulates : goal.returns-then-simulates
returns-then-simulates c = run_of_simulating c.args.words.now c.in-Some.given c.in-Some.ensures.found (c.simulates.ensures.some c.if-simulates.true)
