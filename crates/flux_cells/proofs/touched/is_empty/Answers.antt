use Rattle.std.proofs.Common.{◌∙◌}
use Rattle.flux_cells.proofs.CellLemmas.{empty_from_names, names_of_empty, none_from_test, test_from_none}
use Rattle.flux_cells.proofs.touched.is_empty.Goals as goal

pub returns : goal.returns
returns c = (
  λ none. empty_from_names c.args.cell.now (none_from_test c.name_at.result c.is_none.result c.is_none.ensures none ∙ c.name_at.ensures),
  λ empty. test_from_none c.name_at.result c.is_none.result c.is_none.ensures (c.name_at.ensures ∙ names_of_empty c.args.cell.now empty),
)
