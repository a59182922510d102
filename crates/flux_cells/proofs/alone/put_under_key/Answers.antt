use Rattle.std.proofs.Common.{◌≡◌, ◌∙◌, ap, sym, subst, refl, Some, None, IsSome, unwrap_or}
use Rattle.std.proofs.lemmas.Bool.{false≢true}
use Rattle.std.proofs.lemmas.Result.{err_from_is_err_and}
use Rattle.flux_values.specs.Cells.{no_cell, changed}
use Rattle.flux_cells.specs.Kept.{kept_at}
use Rattle.flux_cells.proofs.CellLemmas.{some_is, none_some}
use Rattle.flux_cells.proofs.Keys.{IsChanged, changed_is, cells_same, found_is}
use Rattle.flux_cells.proofs.OneChange.{changed_under, changed_twice, still_full}
use Rattle.flux_cells.proofs.alone.put_under_key.Goals as goal
use Rattle.flux_cells.proofs.alone.put_under_key.Goals.{After-put_on}

-- the cell that the key has
there : (c : After-put_on) → Some c.in-Some.cell.now ≡ kept_at c.args.cells.now.entries c.args.key
there c = c.in-Some.ensures.value ∙ found_is c.args.cells.now.entries c.args.key

written : (c : After-put_on) → IsChanged c.args.cells.now.entries (c.get_mut.follows.lender c.put_on.new.cell).entries c.args.key (Some c.put_on.new.cell)
written c =
    changed_is c.args.cells.now.entries _ c.args.key (Some c.put_on.new.cell) ((c.get_mut.follows.holds c.put_on.new.cell).3 (subst IsSome c.in-Some.ensures.value refl)).0

pub returns-in_err-put_on-clause-err : goal.returns-in_err-put_on-clause-err
returns-in_err-put_on-clause-err c =
    let at = (goal.at.returns-in_err-put_on-clause-err c).After-put_on in
    let failed = err_from_is_err_and c.from_residual.result c.from_residual.ensures.1 in
    rw (failed.1) (cells_same c.args.cells.now.entries _ c.args.key (Some c.put_on.new.cell) (written at) (c.in_err-put_on.ensures.err ∙ ap (λ o. unwrap_or o no_cell) (there at)))

pub returns-in_err-put_on-clause-empty : goal.returns-in_err-put_on-clause-empty
returns-in_err-put_on-clause-empty c =
    let at = (goal.at.returns-in_err-put_on-clause-empty c).After-put_on in
    still_full c.args.cells.now.entries _ c.args.key (Some c.put_on.new.cell) c.requires (written at)
    (λ cell is empty. c.requires c.args.key c.in-Some.cell.now (sym (there at)) (sym c.in_err-put_on.ensures.err ∙ some_is _ _ is ∙ empty))

pub returns-then-is_empty-clause-ok : goal.returns-then-is_empty-clause-ok
returns-then-is_empty-clause-ok c =
    let at = (goal.at.returns-then-is_empty-clause-ok c).After-put_on in
    changed_under c.args.cells.now.entries c.remove.new.self.entries c.args.key c.args.put.now None
    (changed_twice _ _ _ c.args.key (Some c.put_on.new.cell) None (written at) (changed_is _ c.remove.new.self.entries c.args.key None c.remove.ensures.updates.0))
    (sym (c.if-is_empty.ensures.0 refl) ∙ c.in_ok-put_on.ensures.ok ∙ ap (λ o. changed (unwrap_or o no_cell) c.args.put.now.name c.args.put.now.value) (there at))

pub returns-then-is_empty-clause-empty : goal.returns-then-is_empty-clause-empty
returns-then-is_empty-clause-empty c =
    let at = (goal.at.returns-then-is_empty-clause-empty c).After-put_on in
    still_full c.args.cells.now.entries c.remove.new.self.entries c.args.key None c.requires
    (changed_twice _ _ _ c.args.key (Some c.put_on.new.cell) None (written at) (changed_is _ c.remove.new.self.entries c.args.key None c.remove.ensures.updates.0))
    (λ cell is. none_some cell is)

pub returns-else-is_empty-clause-ok : goal.returns-else-is_empty-clause-ok
returns-else-is_empty-clause-ok c =
    let at = (goal.at.returns-else-is_empty-clause-ok c).After-put_on in
    changed_under c.args.cells.now.entries _ c.args.key c.args.put.now (Some c.put_on.new.cell) (written at)
    (c.in_ok-put_on.ensures.ok ∙ ap (λ o. changed (unwrap_or o no_cell) c.args.put.now.name c.args.put.now.value) (there at))

pub returns-else-is_empty-clause-empty : goal.returns-else-is_empty-clause-empty
returns-else-is_empty-clause-empty c =
    let at = (goal.at.returns-else-is_empty-clause-empty c).After-put_on in
    still_full c.args.cells.now.entries _ c.args.key (Some c.put_on.new.cell) c.requires (written at)
    (λ cell is empty. false≢true (c.if-is_empty.ensures.1 (some_is _ _ is ∙ empty)))
