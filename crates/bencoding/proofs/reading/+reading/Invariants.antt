use Rattle.std.proofs.Common.{◌+◌, ◌*◌, ◌-◌, length, option_map}
use Rattle.bencoding.specs.steps.Printed.{items_view, fields_view}
use Rattle.bencoding.proofs.ValuesRead.{ItemsSoFar, FieldsSoFar}
use Rattle.bencoding.proofs.reading.+reading.Given as goal

abbrev pub decreases-read_value : goal.decreases-read_value
decreases-read_value l = 3 * l.depth

abbrev pub decreases-read_items : goal.decreases-read_items
decreases-read_items l = 3 * l.depth - 1

abbrev pub decreases-read_fields : goal.decreases-read_fields
decreases-read_fields l = 3 * l.depth - 1

abbrev pub decreases-read_field : goal.decreases-read_field
decreases-read_field l = 3 * l.depth + 1

abbrev pub invariant-read_items-loop-at : goal.invariant-read_items-loop-at
invariant-read_items-loop-at l = ItemsSoFar (l.depth - 1) l.bytes l.at (items_view l.items.items)

abbrev pub decreases-read_items-loop-at : goal.decreases-read_items-loop-at
decreases-read_items-loop-at l = length l.bytes - l.at

abbrev pub invariant-read_fields-loop-at : goal.invariant-read_fields-loop-at
invariant-read_fields-loop-at l =
    FieldsSoFar (l.depth - 1) l.bytes l.at (fields_view l.fields.items) (option_map (λ key. key.now) l.before)

abbrev pub decreases-read_fields-loop-at : goal.decreases-read_fields-loop-at
decreases-read_fields-loop-at l = length l.bytes - l.at
