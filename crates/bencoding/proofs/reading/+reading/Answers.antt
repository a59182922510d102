use Rattle.std.proofs.Common.{◌≡◌, ◌<◌, ◌+◌, ◌-◌, length, drop, get_or, subst, sym, arith, option_map, Some}
use Rattle.std.proofs.lemmas.List.{take_rest}
use Rattle.bencoding.specs.Views.{tree_of}
use Rattle.bencoding.specs.steps.Places.{IsStuck}
use Rattle.bencoding.specs.steps.Printed.{items_view, fields_view}
use Rattle.bencoding.specs.steps.Values.{IsSpelled, StandsFirst, IsSpelledField, FieldFirst}
use Rattle.bencoding.proofs.ValuesRead.{value_left, field_left, nothing_stuck, ItemsSoFar, items_more, items_read, items_end, items_stuck, FieldsSoFar, fields_more, fields_read, fields_end, fields_stuck, field_key_stuck, field_value_stuck, field_read}
use Rattle.bencoding.proofs.SeenValues.{view_items, view_fields}
use Rattle.bencoding.proofs.reading.+reading.Goals.{read_fields-then-loop-at-test+else-bytes-at-ne101, read_fields-else-loop-at-test, read_items-then-loop-at-test+else-bytes-at-ne101, read_items-else-loop-at-test}
use Rattle.bencoding.proofs.reading.+reading.Goals as goal

pub read_value-returns-in-Nothing : goal.read_value-returns-in-Nothing
read_value-returns-in-Nothing t c = nothing_stuck c.args.depth c.args.bytes.now c.in-Nothing.ensures

-- ---- keys with values

pub read_field-returns-in-Err : goal.read_field-returns-in-Err
read_field-returns-in-Err t c =
    field_key_stuck c.args.depth (option_map (λ key. key.now) c.args.before) c.args.bytes.now c.in-Err.at
    c.in-Err.ensures

pub read_field-returns-in-Ok-read_value : goal.read_field-returns-in-Ok-read_value
read_field-returns-in-Ok-read_value t c =
    let first = rw take_rest at c.in-Ok-read_value.ensures in (
      c.in_ok-key.ensures,
      field_read c.args.depth (option_map (λ key. key.now) c.args.before) c.args.bytes.now
          c.in-Ok.read.0.now (tree_of c.in-Ok-read_value.value) c.in-Ok.read.1 c.in-Ok-read_value.length c.in-Ok.ensures
          first,
    )

pub read_field-returns-in-Err-BadBen : goal.read_field-returns-in-Err-BadBen
read_field-returns-in-Err-BadBen t c =
    let before = option_map (λ key. key.now) c.args.before in
    let bytes = c.args.bytes.now in
    let e = c.in-Err-BadBen in
    let stuck : IsStuck (IsSpelled c.args.depth) (drop c.in-Ok.read.1 bytes) e.more =
    value_left c.args.depth bytes c.in-Ok.read.1 e.more e.field-0 e.field-0-is e.ensures in
    let whole = field_value_stuck c.args.depth before bytes c.in-Ok.read.0.now c.in-Ok.read.1 e.more c.in-Ok.ensures
    stuck in
    subst (λ n. IsStuck (IsSpelledField c.args.depth before) bytes (c.in-Ok.read.1 + n)) (sym e.more-is) whole

-- ---- dictionaries

pub read_fields-loop-at-preserved : goal.read_fields-loop-at-preserved
read_fields-loop-at-preserved t c =
    let before = option_map (λ key. key.now) c.loop-at.before in
    let bytes = c.args.bytes.now in
    let at = c.loop-at.at in
    let n = c.in-Ok.length in
    let x = c.in-Ok.field in
    let found = rw take_rest at c.in-Ok.ensures in
    let first = subst (λ k. FieldFirst (c.args.depth - 1) before (drop at bytes) k (tree_of x.value) n) (sym found.0)
    found.1 in
    let far = fields_more (c.args.depth - 1) bytes at n c.loop-at.fields.items x before c.loop-at.invariant first in
    let seen = subst (λ ys. FieldsSoFar (c.args.depth - 1) bytes (at + n) (fields_view ys) (Some x.key))
    (sym c.in_ok-push-in-Ok.ensures.items) far in
    subst (λ k. FieldsSoFar (c.args.depth - 1) bytes (at + n) (fields_view c.push.new.self.items) (Some k)) found.0 seen

pub read_fields-returns-in-Err-BadBen : goal.read_fields-returns-in-Err-BadBen
read_fields-returns-in-Err-BadBen t c =
    let before = option_map (λ key. key.now) c.loop-at.before in
    let bytes = c.args.bytes.now in
    let at = c.loop-at.at in
    let e = c.in-Err-BadBen in
    let stuck : IsStuck (IsSpelledField (c.args.depth - 1) before) (drop at bytes) e.more =
    field_left (c.args.depth - 1) before bytes at e.more e.field-0 e.field-0-is e.ensures in
    let whole = fields_stuck c.args.depth bytes at e.more (fields_view c.loop-at.fields.items) before c.requires.depth
    c.loop-at.invariant c.if-bytes-at-ne101.true stuck in
    subst (λ n. IsStuck (IsSpelled c.args.depth) bytes (at + n)) (sym e.more-is) whole

pub read_fields-returns-then-at-bytes : goal.read_fields-returns-then-at-bytes
read_fields-returns-then-at-bytes t c =
    fields_end c.args.depth c.args.bytes.now c.loop-at.at (fields_view c.loop-at.fields.items)
    (option_map (λ key. key.now) c.loop-at.before) c.requires.depth c.loop-at.invariant c.if-at-bytes.true

pub read_fields-returns : goal.read_fields-returns
read_fields-returns t c =
    let bytes = c.args.bytes.now in
    let at = c.loop-at.at in
    let lt : at < length bytes = omega (arith, c.if-at-bytes.false, c.loop-at.invariant.within) in
    let end : get_or bytes at 0 ≡ 101 = elim c.loop-at-test.branch [
      | read_fields-then-loop-at-test+else-bytes-at-ne101 w ↦ w.if-bytes-at-ne101.false
      | read_fields-else-loop-at-test w ↦ absurd (omega (arith, w.loop-at-test.false, lt))
    ] in
    subst (λ t. StandsFirst c.args.depth bytes t (at + 1)) (sym (view_fields c.loop-at.fields))
    (fields_read c.args.depth bytes at (fields_view c.loop-at.fields.items)
    (option_map (λ key. key.now) c.loop-at.before) c.requires.depth c.loop-at.invariant lt end)

-- ---- lists

pub read_items-loop-at-preserved : goal.read_items-loop-at-preserved
read_items-loop-at-preserved t c =
    let bytes = c.args.bytes.now in
    let at = c.loop-at.at in
    let first = rw take_rest at c.in-Ok.ensures in
    subst (λ ys. ItemsSoFar (c.args.depth - 1) bytes (at + c.in-Ok.length) (items_view ys))
    (sym c.in_ok-push-in-Ok.ensures.items)
    (items_more (c.args.depth - 1) bytes at c.in-Ok.length c.loop-at.items.items c.in-Ok.item c.loop-at.invariant first)

pub read_items-returns-in-Err-BadBen : goal.read_items-returns-in-Err-BadBen
read_items-returns-in-Err-BadBen t c =
    let bytes = c.args.bytes.now in
    let at = c.loop-at.at in
    let e = c.in-Err-BadBen in
    let stuck : IsStuck (IsSpelled (c.args.depth - 1)) (drop at bytes) e.more =
    value_left (c.args.depth - 1) bytes at e.more e.field-0 e.field-0-is e.ensures in
    let whole = items_stuck c.args.depth bytes at e.more (items_view c.loop-at.items.items) c.requires.depth
    c.loop-at.invariant c.if-bytes-at-ne101.true stuck in
    subst (λ n. IsStuck (IsSpelled c.args.depth) bytes (at + n)) (sym e.more-is) whole

pub read_items-returns-then-at-bytes : goal.read_items-returns-then-at-bytes
read_items-returns-then-at-bytes t c =
    items_end c.args.depth c.args.bytes.now c.loop-at.at (items_view c.loop-at.items.items) c.requires.depth
    c.loop-at.invariant c.if-at-bytes.true

pub read_items-returns : goal.read_items-returns
read_items-returns t c =
    let bytes = c.args.bytes.now in
    let at = c.loop-at.at in
    let lt : at < length bytes = omega (arith, c.if-at-bytes.false, c.loop-at.invariant.within) in
    let end : get_or bytes at 0 ≡ 101 = elim c.loop-at-test.branch [
      | read_items-then-loop-at-test+else-bytes-at-ne101 w ↦ w.if-bytes-at-ne101.false
      | read_items-else-loop-at-test w ↦ absurd (omega (arith, w.loop-at-test.false, lt))
    ] in
    subst (λ t. StandsFirst c.args.depth bytes t (at + 1)) (sym (view_items c.loop-at.items))
    (items_read c.args.depth bytes at (items_view c.loop-at.items.items) c.requires.depth c.loop-at.invariant lt end)
