use Rattle.std.proofs.Common.{rules, tests, length, sym, ◌∙◌}
use Rattle.std.proofs.lemmas.List.{length_push}
use Rattle.std.proofs.lemmas.Iterator.Consumers.{YieldsList-turn, YieldsList-end}
use Rattle.std.proofs.lemmas.Iterator.Splits.{YieldsList-from_slice_split}
use Rattle.flux_cli.specs.Values.{is_comma}
use Rattle.flux_cli.proofs.CostLists.{cost_more, all_costs, no_costs, too_many, so_far_within}
use Rattle.flux_cli.proofs.simulations.read_list.Goals as goal

pub returns-then-len-eq-COSTS_LIMIT : goal.returns-then-len-eq-COSTS_LIMIT
returns-then-len-eq-COSTS_LIMIT c =
    let t = YieldsList-turn (YieldsList-from_slice_split _ is_comma c.args.list.now (cc) (cc) (cc) (λ x b q k. search (rules, tests))) c.costs.yielded _ c.costs.yielded_by _ _ c.in-Some.digits c.in-Some.is c.next.ensures.steps in
    too_many c.args.list.now (length c.costs.yielded) c.costs.costs c.costs.invariant t.0 (sym c.len.ensures ∙ c.if-len-eq-COSTS_LIMIT.true)

pub costs-preserved : goal.costs-preserved
costs-preserved c =
    let t = YieldsList-turn (YieldsList-from_slice_split _ is_comma c.args.list.now (cc) (cc) (cc) (λ x b q k. search (rules, tests))) c.costs.yielded _ c.costs.yielded_by _ _ c.in-Some.digits c.in-Some.is c.next.ensures.steps in
    let n = length_push c.costs.yielded c.in-Some.digits in
    let read = c.in-Some-read_number.ensures in
    rw n (cost_more c.args.list.now (length c.costs.yielded) c.in-Some.digits.now c.costs.costs c.add.new.self c.in-Some-read_number.cost c.costs.invariant t (λ e. c.if-len-eq-COSTS_LIMIT.false (c.len.ensures ∙ e)) read c.in_ok-add-in-Some-read_number.ensures.added)

pub returns-in-None-read_number : goal.returns-in-None-read_number
returns-in-None-read_number c =
    let t = YieldsList-turn (YieldsList-from_slice_split _ is_comma c.args.list.now (cc) (cc) (cc) (λ x b q k. search (rules, tests))) c.costs.yielded _ c.costs.yielded_by _ _ c.in-Some.digits c.in-Some.is c.next.ensures.steps in
    let none = rw c.in-None-read_number.is at c.read_number.ensures in
    no_costs c.args.list.now (length c.costs.yielded) c.in-Some.digits.now t none

pub invariant_of-result : goal.invariant_of-result
invariant_of-result c = record { within = so_far_within c.args.list.now (length c.costs.yielded) c.costs.costs c.costs.invariant }

pub returns : goal.returns
returns c =
    let t = YieldsList-end (YieldsList-from_slice_split _ is_comma c.args.list.now (cc) (cc) (cc) (λ x b q k. search (rules, tests))) c.costs.yielded _ c.costs.yielded_by _ _ c.in-None.is c.next.ensures.steps in
    all_costs c.args.list.now (length c.costs.yielded) c.costs.costs c.costs.invariant t.1
