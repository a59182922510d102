use Rattle.std.proofs.Common.{◌∙◌, ap, sym, Some, unwrap_or}
use Rattle.std.proofs.lemmas.Bool.{false≢true}
use Rattle.flux_values.specs.Cells.{no_cell, changed}
use Rattle.flux_cells.proofs.CellLemmas.{some_is}
use Rattle.flux_cells.proofs.Keys.{IsChanged, changed_is}
use Rattle.flux_cells.proofs.OneChange.{changed_under, still_full}
use Rattle.flux_cells.proofs.alone.put_new.Goals as goal

inserted : (c : goal.After-drop) → IsChanged c.args.cells.now.entries c.insert.new.self.entries c.args.key (Some c.put_on.new.cell)
inserted c = changed_is c.args.cells.now.entries c.insert.new.self.entries c.args.key (Some c.put_on.new.cell) c.in_ok-insert.ensures.updates.0

pub returns-in_ok-insert-clause-ok : goal.returns-in_ok-insert-clause-ok
returns-in_ok-insert-clause-ok c =
    changed_under c.args.cells.now.entries c.insert.new.self.entries c.args.key c.args.put.now (Some c.put_on.new.cell) (inserted c)
    (c.in_ok-put_on.ensures.ok ∙ ap (λ cell. changed cell c.args.put.now.name c.args.put.now.value) (c.new-cell.ensures ∙ sym (ap (λ o. unwrap_or o no_cell) c.requires.absent)))

pub returns-in_ok-insert-clause-empty : goal.returns-in_ok-insert-clause-empty
returns-in_ok-insert-clause-empty c =
    still_full c.args.cells.now.entries c.insert.new.self.entries c.args.key (Some c.put_on.new.cell) c.requires.empty (inserted c)
    (λ cell is empty. false≢true (c.if-not-is_empty.ensures.1 (some_is _ _ is ∙ empty)))
