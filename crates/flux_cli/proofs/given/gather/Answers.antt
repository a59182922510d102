use Rattle.std.proofs.Common.{rules}
use Rattle.flux_cli.specs.steps.Found.{part_of}
use Rattle.flux_cli.proofs.Gathered.{one_more, none_there, too_much_there}
use Rattle.flux_cli.proofs.Forms.{if_none}
use Rattle.flux_cli.proofs.given.gather.Goals as goal

pub returns-in_err-part-clause-none : goal.returns-in_err-part-clause-none
returns-in_err-part-clause-none c = if_none c.from_residual.result _ (λ parts laid.
    absurd (none_there c.args.words.now c.parts.rest.now c.parts.given c.parts.invariant (search rules) c.in_err-part.ensures.none parts laid))

pub returns-in_err-add-clause-none : goal.returns-in_err-add-clause-none
returns-in_err-add-clause-none c = if_none c.from_residual-in_err-add.result _ (λ parts laid.
    too_much_there c.args.words.now c.parts.rest.now c.in_ok-part.behind.now c.parts.given (part_of c.in_ok-part.part) c.parts.invariant (search rules) c.in_ok-part.ensures.found c.in_err-add.ensures.full parts laid)

pub parts-preserved : goal.parts-preserved
parts-preserved c =
    one_more c.args.words.now c.parts.rest.now c.in_ok-part.behind.now c.parts.given c.add.new.self (part_of c.in_ok-part.part) c.parts.invariant c.in_ok-part.ensures.found c.in_ok-add.ensures.added
