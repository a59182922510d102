use Rattle.std.proofs.Common.{◌∙◌, ap, sym, Some}
use Rattle.std.specs.List.{slice_get}
use Rattle.std.proofs.lemmas.Option.{slice_get_within}
use Rattle.flux_items.proofs.LineReads.{bad_unnamed, item_line_read, unknown_line_read}
use Rattle.flux_items.proofs.lines.read_line.Goals as goal

pub returns-in_default : goal.returns-in_default
returns-in_default c = bad_unnamed c.args.line.now (λ over. let so = c.if-is_passed_over.ensures.1 over in absurd cc) c.in_default.ensures.none

pub read_item-requires-clause-place : goal.read_item-requires-clause-place
read_item-requires-clause-place c = slice_get_within c.args.rules.now.names c.in-Some-place.place c.in-Some.name.now (ap (λ l. slice_get l c.in-Some-place.place) (sym c.requires.names) ∙ c.in-Some-place.ensures.found)

pub returns-in-Some-place : goal.returns-in-Some-place
returns-in-Some-place c =
    item_line_read c.args.rules.now c.args.line.now c.in-Some.name.now c.in-Some.text.now c.in-Some-place.place c.in-Some.ensures.found
    (ap (λ l. slice_get l c.in-Some-place.place) (sym c.requires.names) ∙ c.in-Some-place.ensures.found) c.read_item.result c.read_item.ensures

pub returns-in-None : goal.returns-in-None
returns-in-None c =
    unknown_line_read c.args.rules.now c.args.line.now c.in-Some.name.now c.in-Some.text.now c.in-Some.ensures.found
    (λ place named. c.in-None.ensures.none place (ap (λ l. slice_get l place) c.requires.names ∙ named)) c.read_unknown.result c.read_unknown.ensures
