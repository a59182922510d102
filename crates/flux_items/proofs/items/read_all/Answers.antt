use Rattle.std.proofs.Common.{inl, inr, arith, rules, tests, length, subst, sym, ap, ◌+◌, ◌∙◌}
use Rattle.std.proofs.lemmas.List.{length_push}
use Rattle.std.proofs.lemmas.Iterator.Consumers.{YieldsList-turn, YieldsList-end}
use Rattle.std.proofs.lemmas.Iterator.Splits.{YieldsList-from_slice_split}
use Rattle.flux_items.specs.declared.rules.ItemFault.TheVariants as faults
use Rattle.flux_items.specs.Lines.{is_line_end, lines_of}
use Rattle.flux_items.specs.steps.Reading.{AreItemsSoFar}
use Rattle.flux_items.proofs.ItemReads.{passed_more, item_more, too_much, all_read, fault_here}
use Rattle.flux_items.proofs.items.read_all.Goals as goal

pub lines-preserved-in-PassedOver : goal.lines-preserved-in-PassedOver
lines-preserved-in-PassedOver c =
    let t = YieldsList-turn (YieldsList-from_slice_split _ is_line_end c.args.bytes.now (cc) (cc) (cc) (λ x b q k. search (rules, tests))) c.lines.yielded _ c.lines.yielded_by _ _ c.in-Some.line c.in-Some.is c.next.ensures.steps in
    let over = rw c.in-PassedOver.is at c.in_ok-read_line.ensures in
    let n = length_push c.lines.yielded c.in-Some.line in
    (omega (arith, n, c.lines.invariant.0), rw n (passed_more c.args.rules.now (lines_of c.args.bytes.now) (length c.lines.yielded) c.in-Some.line.now c.lines.items c.lines.size c.lines.invariant.1 t over))

pub lines-preserved : goal.lines-preserved
lines-preserved c =
    let t = YieldsList-turn (YieldsList-from_slice_split _ is_line_end c.args.bytes.now (cc) (cc) (cc) (λ x b q k. search (rules, tests))) c.lines.yielded _ c.lines.yielded_by _ _ c.in-Some.line c.in-Some.is c.next.ensures.steps in
    let item = rw c.in-Item.is at c.in_ok-read_line.ensures in
    let n = length_push c.lines.yielded c.in-Some.line in (
      omega (arith, n, c.lines.invariant.0),
      rw n (item_more c.args.rules.now (lines_of c.args.bytes.now) (length c.lines.yielded) c.in-Some.line.now c.lines.items c.add.new.self c.in-Item.item c.lines.size c.size_at-size.result c.lines.invariant.1 t item c.size_at-size.ensures.value
          (λ full. c.if-len-eq-ITEM_LIMIT.false (c.len.ensures ∙ full)) (omega (arith, c.if-size-gt-SIZE_LIMIT.false)) c.in_ok-add-in-Item.ensures.added),
    )

pub returns-then-len-eq-ITEM_LIMIT : goal.returns-then-len-eq-ITEM_LIMIT
returns-then-len-eq-ITEM_LIMIT c =
    let t = YieldsList-turn (YieldsList-from_slice_split _ is_line_end c.args.bytes.now (cc) (cc) (cc) (λ x b q k. search (rules, tests))) c.lines.yielded _ c.lines.yielded_by _ _ c.in-Some.line c.in-Some.is c.next.ensures.steps in
    let item = rw c.in-Item.is at c.in_ok-read_line.ensures in
    let past = c.then-len-eq-ITEM_LIMIT.either in
    let cause = too_much c.args.rules.now (lines_of c.args.bytes.now) (length c.lines.yielded) c.in-Some.line.now c.lines.items c.in-Item.item c.lines.size c.size_at-size.result c.lines.invariant.1 item c.size_at-size.ensures.value (elim past [ inl full ↦ inl (sym c.len.ensures ∙ full) | inr more ↦ inr more.1 ]) in
    inr (fault_here c.args.rules.now c.args.bytes.now (length c.lines.yielded) c.in-Some.line.now c.lines.items c.lines.size (faults.TooMany (c.lines.number + 1)) c.lines.invariant.1 t (omega (arith, c.lines.invariant.0)) cause)

pub returns-in-BadItem : goal.returns-in-BadItem
returns-in-BadItem c =
    let t = YieldsList-turn (YieldsList-from_slice_split _ is_line_end c.args.bytes.now (cc) (cc) (cc) (λ x b q k. search (rules, tests))) c.lines.yielded _ c.lines.yielded_by _ _ c.in-Some.line c.in-Some.is c.next.ensures.steps in
    let cause = rw c.in-BadItem.is at c.in_ok-read_line.ensures in
    inr (fault_here c.args.rules.now c.args.bytes.now (length c.lines.yielded) c.in-Some.line.now c.lines.items c.lines.size (faults.BadItem (c.lines.number + 1)) c.lines.invariant.1 t (omega (arith, c.lines.invariant.0)) cause)

pub returns-in-UnknownSource : goal.returns-in-UnknownSource
returns-in-UnknownSource c =
    let t = YieldsList-turn (YieldsList-from_slice_split _ is_line_end c.args.bytes.now (cc) (cc) (cc) (λ x b q k. search (rules, tests))) c.lines.yielded _ c.lines.yielded_by _ _ c.in-Some.line c.in-Some.is c.next.ensures.steps in
    let cause = rw c.in-UnknownSource.is at c.in_ok-read_line.ensures in
    inr (fault_here c.args.rules.now c.args.bytes.now (length c.lines.yielded) c.in-Some.line.now c.lines.items c.lines.size (faults.UnknownSource (c.lines.number + 1)) c.lines.invariant.1 t (omega (arith, c.lines.invariant.0)) cause)

pub returns-in-ItemTypes : goal.returns-in-ItemTypes
returns-in-ItemTypes c =
    let t = YieldsList-turn (YieldsList-from_slice_split _ is_line_end c.args.bytes.now (cc) (cc) (cc) (λ x b q k. search (rules, tests))) c.lines.yielded _ c.lines.yielded_by _ _ c.in-Some.line c.in-Some.is c.next.ensures.steps in
    let cause = rw c.in-ItemTypes.is at c.in_ok-read_line.ensures in
    inr (fault_here c.args.rules.now c.args.bytes.now (length c.lines.yielded) c.in-Some.line.now c.lines.items c.lines.size (faults.ItemTypes (c.lines.number + 1)) c.lines.invariant.1 t (omega (arith, c.lines.invariant.0)) cause)

pub returns : goal.returns
returns c =
    let t = YieldsList-end (YieldsList-from_slice_split _ is_line_end c.args.bytes.now (cc) (cc) (cc) (λ x b q k. search (rules, tests))) c.lines.yielded _ c.lines.yielded_by _ _ c.in-None.is c.next.ensures.steps in
    all_read c.args.rules.now c.args.bytes.now (length c.lines.yielded) c.lines.items c.lines.size c.lines.invariant.1 t.1
