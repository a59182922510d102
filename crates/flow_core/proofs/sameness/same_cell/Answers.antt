use Rattle.std.proofs.Common.{◌≡◌, None, ap, not, sym, ◌∙◌}
use Rattle.std.specs.FinMap.{keys}
use Rattle.std.specs.List.{slice_get}
use Rattle.std.specs.Option.{option_copied}
use Rattle.flux_values.specs.Cells.{CellMap}
use Rattle.flow_core.proofs.SameCells.{same-cells, none-copied, copied-none, is-none_from}
use Rattle.flow_core.proofs.sameness.same_cell.Goals as goal

pub returns : goal.returns
returns c =
    let end_a : slice_get (keys c.args.a.now) c.loop-name.place ≡ None =
    sym c.name_at.ensures ∙ ap (λ o. option_copied o) c.in_default.is in (
      λ t. same-cells c.args.a.now c.args.b.now c.loop-name.place c.loop-name.invariant end_a
          (sym c.name_at-2.ensures ∙ none-copied c.name_at-2.result (c.is_none.ensures ∙ ap not t)),
      λ e. is-none_from c.is_none.result
          (sym c.is_none.ensures ∙ copied-none c.name_at-2.result
          (c.name_at-2.ensures ∙ ap (λ (m : CellMap). slice_get (keys m) c.loop-name.place) (sym e) ∙ end_a)),
    )
