use Rattle.std.proofs.Common.{rules, tests, length}
use Rattle.std.proofs.lemmas.List.{length_push}
use Rattle.std.proofs.lemmas.Iterator.Consumers.{YieldsList-turn, YieldsList-end}
use Rattle.std.proofs.lemmas.Iterator.Splits.{YieldsList-from_slice_split}
use Rattle.flux_cli.specs.Values.{is_comma}
use Rattle.flux_cli.proofs.Numbers.{number_more, all_numbers, no_numbers}
use Rattle.flux_cli.proofs.values.read_numbers.Goals as goal

pub numbers-preserved : goal.numbers-preserved
numbers-preserved c =
    let t = YieldsList-turn (YieldsList-from_slice_split _ is_comma c.args.list.now (cc) (cc) (cc) (λ x b q k. search (rules, tests))) c.numbers.yielded _ c.numbers.yielded_by _ _ c.in-Some.digits c.in-Some.is c.next.ensures.steps in
    let n = length_push c.numbers.yielded c.in-Some.digits in
    let read = c.in-Some-read_number.ensures in
    rw n (number_more c.args.list.now (length c.numbers.yielded) c.in-Some.digits.now c.numbers.numbers c.add.new.self (record { 0 = c.in-Some-read_number.number }) c.numbers.invariant t read c.in_ok-add-in-Some-read_number.ensures.added)

pub returns-in-None-read_number : goal.returns-in-None-read_number
returns-in-None-read_number c =
    let t = YieldsList-turn (YieldsList-from_slice_split _ is_comma c.args.list.now (cc) (cc) (cc) (λ x b q k. search (rules, tests))) c.numbers.yielded _ c.numbers.yielded_by _ _ c.in-Some.digits c.in-Some.is c.next.ensures.steps in
    let none = rw c.in-None-read_number.is at c.read_number.ensures in
    no_numbers c.args.list.now (length c.numbers.yielded) c.in-Some.digits.now (search rules) t none

pub returns : goal.returns
returns c =
    let t = YieldsList-end (YieldsList-from_slice_split _ is_comma c.args.list.now (cc) (cc) (cc) (λ x b q k. search (rules, tests))) c.numbers.yielded _ c.numbers.yielded_by _ _ c.in-None.is c.next.ensures.steps in
    all_numbers c.args.list.now (length c.numbers.yielded) c.numbers.numbers c.numbers.invariant t.1
