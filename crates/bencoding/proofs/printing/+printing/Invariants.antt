use Rattle.std.proofs.Common.{◌≡◌, ◌++◌, drop}
use Rattle.bencoding.specs.Trees.{spelled_items, spelled_fields}
use Rattle.bencoding.specs.steps.Printed.{items_view, fields_view}
use Rattle.bencoding.proofs.printing.+printing.Given as goal

abbrev pub invariant-append_fields-loop-field : goal.invariant-append_fields-loop-field
invariant-append_fields-loop-field l =
    l.out ++ spelled_fields (fields_view (drop l.field-index l.field-items)) ≡ l.initial.out
    ++ spelled_fields (fields_view l.field-items)

abbrev pub invariant-append_items-loop-item : goal.invariant-append_items-loop-item
invariant-append_items-loop-item l =
    l.out ++ spelled_items (items_view (drop l.item-index l.item-items)) ≡ l.initial.out
    ++ spelled_items (items_view l.item-items)
