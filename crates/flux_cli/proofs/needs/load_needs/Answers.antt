use Rattle.std.proofs.Common.{ap}
use Rattle.flux_cli.specs.declared.names.CommandName.TheVariants.{Load}
use Rattle.flux_cli.specs.steps.Given.{files_of}
use Rattle.flux_cli.proofs.Forms.{some_given, load_of_too_much, load_of_serving, load_of_simulating, load_of_options, load_of_files, load_of_count, load_of_first}
use Rattle.flux_cli.proofs.AskingThreads.{none_listed, nothing_asks, load_asks}
use Rattle.flux_cli.proofs.needs.load_needs.Goals.{then-is_some-via-then-is_some, then-is_some-via-else-is_some+then-is_some-2}
use Rattle.flux_cli.proofs.needs.load_needs.Goals as goal

pub returns-in_default : goal.returns-in_default
returns-in_default c = nothing_asks Load c.args.words.now (load_of_too_much c.args.words.now c.in_default.ensures.none)

pub returns-then-is_some : goal.returns-then-is_some
returns-then-is_some c = nothing_asks Load c.args.words.now (load_of_options c.args.words.now c.in-Some.given c.in-Some.ensures.found (λ d j. elim c.then-is_some.branch [
  | then-is_some-via-then-is_some w ↦ some_given c.in-Some.given.docs c.is_some.result c.is_some.ensures w.if-is_some.true d
  | then-is_some-via-else-is_some+then-is_some-2 w ↦ some_given c.in-Some.given.journal w.is_some-else-is_some.result w.is_some-else-is_some.ensures w.if-is_some-2.true j
]))

pub returns-in_default-files : goal.returns-in_default-files
returns-in_default-files c = nothing_asks Load c.args.words.now
    (load_of_files c.args.words.now c.in-Some.given c.in-Some.ensures.found c.in_default-files.not-Two)

pub returns-in_default-read_number : goal.returns-in_default-read_number
returns-in_default-read_number c = nothing_asks Load c.args.words.now
    (load_of_count c.args.words.now c.in-Some.given c.in-Some.ensures.found c.in-Two.count.now c.in-Two.first.now
    (ap files_of c.in-Two.is) c.in_default-read_number.ensures)

pub returns-in_default-read_number-2 : goal.returns-in_default-read_number-2
returns-in_default-read_number-2 c = nothing_asks Load c.args.words.now
    (load_of_first c.args.words.now c.in-Some.given c.in-Some.ensures.found c.in-Two.count.now c.in-Two.first.now
    (ap files_of c.in-Two.is) c.in_default-read_number-2.ensures)

pub returns : goal.returns
returns c = load_asks c.args.words.now c.in-Some.given c.in-Some.ensures.found c.is_threaded.result c.is_threaded.ensures
    c.in-Two.count.now c.in-Two.first.now c.in-Some-read_number.field-0 c.in-Some-read_number-2.field-0
    (ap files_of c.in-Two.is) c.in-Some-read_number.ensures c.in-Some-read_number-2.ensures
    (none_listed c.in-Some.given.docs c.if-is_some.ensures) (none_listed c.in-Some.given.journal c.if-is_some-2.ensures)
    (c.serves.ensures.none c.if-serves.false).0 (c.serves.ensures.none c.if-serves.false).1
    (c.serves.ensures.none c.if-serves.false).2
    (c.simulates.ensures.none c.if-simulates.false).0 (c.simulates.ensures.none c.if-simulates.false).1

pub returns-then-serves : goal.returns-then-serves
returns-then-serves c = nothing_asks Load c.args.words.now (load_of_serving c.args.words.now c.in-Some.given c.in-Some.ensures.found (c.serves.ensures.some c.if-serves.true))

pub returns-then-simulates : goal.returns-then-simulates
returns-then-simulates c = nothing_asks Load c.args.words.now (load_of_simulating c.args.words.now c.in-Some.given c.in-Some.ensures.found (c.simulates.ensures.some c.if-simulates.true))
