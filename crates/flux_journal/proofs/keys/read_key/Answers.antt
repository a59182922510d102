use Rattle.std.proofs.Common.{refl}
use Rattle.flux_journal.proofs.Keying.{if_none, none_global, none_scoped, none_numbered}
use Rattle.flux_journal.proofs.keys.read_key.Goals as goal

pub returns-in_err-find_class-in-None-clause-none : goal.returns-in_err-find_class-in-None-clause-none
returns-in_err-find_class-in-None-clause-none c = if_none c.from_residual.result (none_global c.args.program.now c.args.bytes.now c.in-None.ensures.none c.in_err-find_class-in-None.ensures.none)

pub returns-in_err-find_class-in-Some-clause-none : goal.returns-in_err-find_class-in-Some-clause-none
returns-in_err-find_class-in-Some-clause-none c =
    if_none c.from_residual-in_err-find_class-in-Some.result (none_scoped c.args.program.now c.requires.named c.args.bytes.now c.in-Some.name.now c.in-Some.number.now c.in-Some.ensures.found c.in_err-find_class-in-Some.ensures.none)

pub returns-in_err-read_number-in-Some-clause-none : goal.returns-in_err-read_number-in-Some-clause-none
returns-in_err-read_number-in-Some-clause-none c =
    if_none c.from_residual-in_err-read_number-in-Some.result (none_numbered c.args.program.now c.requires.named c.args.bytes.now c.in-Some.name.now c.in-Some.number.now _ refl c.in-Some.ensures.found c.in_err-read_number-in-Some.ensures.none)
