use Rattle.std.proofs.Common.{◌≡◌, refl, ap, sym, ◌∙◌}
use Rattle.std.specs.Prelude.{Some}
use Rattle.nodes_tracker.specs.Asks.{hash_of}
use Rattle.flux_cli.specs.steps.Given.{files_of}
use Rattle.flux_cli.proofs.Forms.{some_given, none_given, swarm_of_too_much, swarm_of_serving, swarm_of_simulating, swarm_of_options, swarm_of_files, swarm_of_hash, swarm_given}
use Rattle.flux_cli.proofs.swarms.read_swarm.Goals.{then-is_some-via-then-is_some, then-is_some-via-else-is_some+then-is_some-2}
use Rattle.flux_cli.proofs.swarms.read_swarm.Goals as goal

pub returns-in_default : goal.returns-in_default
returns-in_default c = swarm_of_too_much c.args.words.now c.in_default.ensures.none

pub returns-then-is_some : goal.returns-then-is_some
returns-then-is_some c = swarm_of_options c.args.words.now c.in-Some.given c.in-Some.ensures.found (λ r j. elim c.then-is_some.branch [
  | then-is_some-via-then-is_some w ↦ some_given c.in-Some.given.runtime c.is_some.result c.is_some.ensures w.if-is_some.true r
  | then-is_some-via-else-is_some+then-is_some-2 w ↦ some_given c.in-Some.given.journal w.is_some-else-is_some.result w.is_some-else-is_some.ensures w.if-is_some-2.true j
])

pub returns-then-serves : goal.returns-then-serves
returns-then-serves c = swarm_of_serving c.args.words.now c.in-Some.given c.in-Some.ensures.found (c.serves.ensures.some c.if-serves.true)

pub returns-then-simulates : goal.returns-then-simulates
returns-then-simulates c = swarm_of_simulating c.args.words.now c.in-Some.given c.in-Some.ensures.found (c.simulates.ensures.some c.if-simulates.true)

pub returns-in_default-files : goal.returns-in_default-files
returns-in_default-files c = swarm_of_files c.args.words.now c.in-Some.given c.in-Some.ensures.found c.in_default-files.not-Four

pub returns-in_default-2 : goal.returns-in_default-2
returns-in_default-2 c =
    let none = rw c.in_default-2.is at c.in_ok-hash.ensures in
    swarm_of_hash c.args.words.now c.in-Some.given c.in-Some.ensures.found c.in-Four.file.now c.in-Four.items.now
    c.in-Four.journal.now c.in-Four.digits.now (ap files_of c.in-Four.is) none

pub returns : goal.returns
returns c =
    let given = c.in-Some.given in
    let same = sym c.as_bytes.ensures.same ∙ sym c.in_ok-copy.ensures in
    let spelled : hash_of c.in-Four.digits.now ≡ Some c.in_ok-copy.field-0 =
    sym c.in_ok-hash.ensures ∙ c.in-Some-2.is ∙ ap Some same in
    let serving = c.serves.ensures.none c.if-serves.false in
    let simulating = c.simulates.ensures.none c.if-simulates.false in
    record {
      is = refl;
      behind = swarm_given c.args.words.now given c.in-Some.ensures.found c.in-Four.file.now c.in-Four.items.now
          c.in-Four.journal.now c.in-Four.digits.now c.in_ok-copy.field-0 (ap files_of c.in-Four.is) spelled
          (none_given given.runtime c.is_some.result c.is_some.ensures c.if-is_some.false)
          (none_given given.journal c.is_some-else-is_some.result c.is_some-else-is_some.ensures c.if-is_some-2.false)
          serving.0 serving.1 serving.2 simulating.0 simulating.1;
    }
