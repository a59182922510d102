use Rattle.std.proofs.Common.{◌≡◌, true, false, rules, tests, [], ◌∷◌, ◌++◌, length, refl}
use Rattle.std.proofs.lemmas.List.{length_push}
use Rattle.std.proofs.lemmas.Iterator.Consumers.{YieldsList-turn, YieldsList-end}
use Rattle.std.proofs.lemmas.Iterator.Splits.{YieldsList-from_slice_split}
use Rattle.flux_model.specs.declared.items.FlowNo.{FlowNo}
use Rattle.flux_cli.specs.Values.{is_comma}
use Rattle.flux_cli.proofs.Numbers.{number_more, all_numbers, no_numbers}
use Rattle.flux_cli.proofs.values.are_numbers.Goals as goal

pub numbers-preserved : goal.numbers-preserved
numbers-preserved c =
    let t = YieldsList-turn (YieldsList-from_slice_split _ is_comma c.args.list.now (cc) (cc) (cc) (λ x b q k. search (rules, tests))) c.numbers.yielded _ c.numbers.yielded_by _ _ c.in-Some.digits c.in-Some.is c.next.ensures.steps in
    let n = length_push c.numbers.yielded c.in-Some.digits in
    let flow : FlowNo = record { 0 = c.in-Some-read_number.field-0 } in
    let so = c.numbers.invariant in
    rw n ((so.0 ++ flow ∷ []), number_more c.args.list.now (length c.numbers.yielded) c.in-Some.digits.now so.0 (so.0 ++ flow ∷ []) flow so.1 t c.in-Some-read_number.ensures refl)

pub returns-in-None-read_number : goal.returns-in-None-read_number
returns-in-None-read_number c =
    let t = YieldsList-turn (YieldsList-from_slice_split _ is_comma c.args.list.now (cc) (cc) (cc) (λ x b q k. search (rules, tests))) c.numbers.yielded _ c.numbers.yielded_by _ _ c.in-Some.digits c.in-Some.is c.next.ensures.steps in
    let none = rw c.in-None-read_number.is at c.read_number.ensures in (
      λ yes. absurd (let e : false ≡ true = yes in cc),
      λ found. absurd (no_numbers c.args.list.now (length c.numbers.yielded) c.in-Some.digits.now (search rules) t none found.0 found.1),
    )

pub returns : goal.returns
returns c =
    let t = YieldsList-end (YieldsList-from_slice_split _ is_comma c.args.list.now (cc) (cc) (cc) (λ x b q k. search (rules, tests))) c.numbers.yielded _ c.numbers.yielded_by _ _ c.in-None.is c.next.ensures.steps in
    let so = c.numbers.invariant in (
      λ yes. (so.0, all_numbers c.args.list.now (length c.numbers.yielded) so.0 so.1 t.1),
      λ found. refl,
    )
