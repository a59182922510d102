use Rattle.flux_cli.proofs.Forms.{some_given, simulate_of_too_much, simulate_of_serving, simulate_of_options, simulate_of_files, simulate_of_processors, simulate_of_costs}
use Rattle.flux_cli.proofs.simulations.read_simulation.Goals.{then-is_some-via-then-is_some, then-is_some-via-else-is_some+then-is_some-2}
use Rattle.flux_cli.proofs.simulations.read_simulation.Goals as goal

pub returns-then-is_some : goal.returns-then-is_some
returns-then-is_some c = simulate_of_options c.args.words.now c.in-Some.given c.in-Some.ensures.found (λ r j. elim c.then-is_some.branch [
  | then-is_some-via-then-is_some w ↦ some_given c.in-Some.given.runtime c.is_some.result c.is_some.ensures w.if-is_some.true r
  | then-is_some-via-else-is_some+then-is_some-2 w ↦ some_given c.in-Some.given.journal w.is_some-else-is_some.result w.is_some-else-is_some.ensures w.if-is_some-2.true j
])

pub returns-then-serves : goal.returns-then-serves
returns-then-serves c = simulate_of_serving c.args.words.now c.in-Some.given c.in-Some.ensures.found (c.serves.ensures.some c.if-serves.true)

pub returns-in_default-files : goal.returns-in_default-files
returns-in_default-files c = simulate_of_files c.args.words.now c.in-Some.given c.in-Some.ensures.found c.in_default-files.not-Two

pub returns-in_default-read_processors : goal.returns-in_default-read_processors
returns-in_default-read_processors c = simulate_of_processors c.args.words.now c.in-Some.given c.in-Some.ensures.found c.in_default-read_processors.ensures

pub returns-in_default-2 : goal.returns-in_default-2
returns-in_default-2 c =
    let none = rw c.in_default-2.is at c.in_ok-costs.ensures in
    simulate_of_costs c.args.words.now c.in-Some.given c.in-Some.ensures.found none

pub returns-in_default : goal.returns-in_default
returns-in_default c = simulate_of_too_much c.args.words.now c.in_default.ensures.none
