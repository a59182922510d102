use Rattle.std.proofs.Common.{ap}
use Rattle.flux_cli.specs.steps.Given.{files_of}
use Rattle.flux_cli.proofs.Forms.{load_of_serving, load_of_simulating, some_given, load_of_options, load_of_files, load_of_count, load_of_first, load_of_runtime}
use Rattle.flux_cli.proofs.loads.read_load.Goals.{then-is_some-via-then-is_some, then-is_some-via-else-is_some+then-is_some-2}
use Rattle.flux_cli.proofs.loads.read_load.Goals as goal

pub returns-then-is_some : goal.returns-then-is_some
returns-then-is_some c = load_of_options c.args.words.now c.in-Some.given c.in-Some.ensures.found (λ d j. elim c.then-is_some.branch [
  | then-is_some-via-then-is_some w ↦ some_given c.in-Some.given.docs c.is_some.result c.is_some.ensures w.if-is_some.true d
  | then-is_some-via-else-is_some+then-is_some-2 w ↦ some_given c.in-Some.given.journal w.is_some-else-is_some.result w.is_some-else-is_some.ensures w.if-is_some-2.true j
])

pub returns-in_default-files : goal.returns-in_default-files
returns-in_default-files c = load_of_files c.args.words.now c.in-Some.given c.in-Some.ensures.found c.in_default-files.not-Two

pub returns-in_default-read_number : goal.returns-in_default-read_number
returns-in_default-read_number c = load_of_count c.args.words.now c.in-Some.given c.in-Some.ensures.found c.in-Two.count.now c.in-Two.first.now (ap files_of c.in-Two.is) c.in_default-read_number.ensures

pub returns-in_default-read_number-2 : goal.returns-in_default-read_number-2
returns-in_default-read_number-2 c = load_of_first c.args.words.now c.in-Some.given c.in-Some.ensures.found c.in-Two.count.now c.in-Two.first.now (ap files_of c.in-Two.is) c.in_default-read_number-2.ensures

pub returns-in_default-2 : goal.returns-in_default-2
returns-in_default-2 c =
    let none = rw c.in_default-2.is at c.in_ok-runtime.ensures in
    load_of_runtime c.args.words.now c.in-Some.given c.in-Some.ensures.found none

pub returns-then-serves : goal.returns-then-serves
returns-then-serves c = load_of_serving c.args.words.now c.in-Some.given c.in-Some.ensures.found (c.serves.ensures.some c.if-serves.true)

pub returns-then-simulates : goal.returns-then-simulates
returns-then-simulates c = load_of_simulating c.args.words.now c.in-Some.given c.in-Some.ensures.found (c.simulates.ensures.some c.if-simulates.true)
