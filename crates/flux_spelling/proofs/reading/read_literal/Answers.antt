use Rattle.std.proofs.Common.{◌≡◌, ◌<◌, ◌+◌, length, ◌∷◌, [], inl, inr, refl, sym, ap, subst, rules, arith, get_or, take}
use Rattle.std.proofs.lemmas.List.{take_rest, length-append}
use Rattle.flux_values.specs.Spellings.{OpensText}
use Rattle.flux_spelling.proofs.TextsRead.{text_more, not_quote}
use Rattle.flux_spelling.proofs.reading.read_literal.Goals.{then-loop-at-test+else-bytes-at-ne34, else-loop-at-test}
use Rattle.flux_spelling.proofs.reading.read_literal.Goals as goal

pub loop-at-preserved : goal.loop-at-preserved
loop-at-preserved c =
    let found = rw take_rest at c.in-Spells.ensures in
    let m = text_more c.args.bytes.now c.loop-at.text.items c.loop-at.at c.in-Spells.byte c.in-Spells.length c.loop-at.invariant.opens c.loop-at.invariant.within (sym found) in
    let items = c.in_ok-push-in-Spells.ensures.items in
    record {
      within = m.2;
      opens = subst (OpensText (take (c.loop-at.at + c.in-Spells.length) c.args.bytes.now)) (sym items) m.0;
      each = search rules;
      room = omega (arith, ap length items, length-append c.loop-at.text.items (c.in-Spells.byte ∷ []));
    }

pub returns-then-len-limit : goal.returns-then-len-limit
returns-then-len-limit c = record {
  text = c.loop-at.text.items;
  open_ = record { within = c.loop-at.invariant.within; opens = c.loop-at.invariant.opens; each = c.loop-at.invariant.each; few = omega arith };
  full = search rules;
  within = c.loop-at-test.true;
  other = c.if-bytes-at-ne34.true;
}

pub returns-in-Stops : goal.returns-in-Stops
returns-in-Stops c =
    let found = rw take_rest at c.in-Stops.ensures in
    record {
      text = c.loop-at.text.items;
      at = c.loop-at.at;
      after = c.in-Stops.after;
      open_ = record { within = c.loop-at.invariant.within; opens = c.loop-at.invariant.opens; each = c.loop-at.invariant.each; few = omega arith };
      is = refl;
      stuck = inl (record { room = omega arith; other = not_quote c.args.bytes.now c.loop-at.at c.loop-at-test.true c.if-bytes-at-ne34.true; stops = sym found });
    }

pub returns-then-at-bytes : goal.returns-then-at-bytes
returns-then-at-bytes c = record {
  text = c.loop-at.text.items;
  at = c.loop-at.at;
  after = 0;
  open_ = record { within = c.loop-at.invariant.within; opens = c.loop-at.invariant.opens; each = c.loop-at.invariant.each; few = omega arith };
  is = omega arith;
  stuck = inr (c.if-at-bytes.true, refl);
}

pub returns : goal.returns
returns c =
    let lt : c.loop-at.at < length c.args.bytes.now = omega arith in
    let quote : get_or c.args.bytes.now c.loop-at.at 0 ≡ 34 = elim c.loop-at-test.branch [
      | then-loop-at-test+else-bytes-at-ne34 w ↦ w.if-bytes-at-ne34.false
      | else-loop-at-test w ↦ absurd (omega (arith, w.loop-at-test.false))
    ] in
    record {
      at = c.loop-at.at;
      open_ = record { within = c.loop-at.invariant.within; opens = c.loop-at.invariant.opens; each = c.loop-at.invariant.each; few = omega arith };
      long = refl;
      within = lt;
      quote = quote;
    }
