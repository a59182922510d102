use Rattle.std.proofs.Common.{[], ◌∙◌, sym, subst, Some}
use Rattle.std.specs.Map.{keys_of}
use Rattle.std.proofs.lemmas.Map.Keys.{IsDistinct-from_sorted}
use Rattle.flux_cells.specs.Kept.{NoneIsEmpty}
use Rattle.flow_model.proofs.Keys.{key_cmp}
use Rattle.flux_cells.proofs.Keys.{IsChanged, changed_is}
use Rattle.flux_cells.proofs.Copied.{IsCopied, KeysDiffer, keys_differ, copied_none, copied_more, copied_all, copied_full}
use Rattle.flux_cells.proofs.kept.Cells.copy.Goals as goal

pub loop-key-init : goal.loop-key-init
loop-key-init c =
    let told = c.into_iter-key-iterator.ensures.into_iter_gives in
    let whole = told.0 ∙ c.self.view_is in
    let differ = keys_differ c.self.inside.cells.entries (IsDistinct-from_sorted key_cmp (keys_of c.self.inside.cells.entries) told.5) in
    subst (λ rest. IsCopied c.args.self.now rest c.new-cells.result.entries) (sym whole)
    (subst (IsCopied c.args.self.now c.args.self.now) (sym c.new-cells.ensures.empty) (copied_none c.args.self.now (subst KeysDiffer c.self.view_is differ)))

pub loop-key-preserved : goal.loop-key-preserved
loop-key-preserved c =
    copied_more c.args.self.now c.next.new.self c.loop-key.cells.entries c.insert.new.self.entries c.in-Some.key.now c.in-Some.cell.now
    (subst (λ rest. IsCopied c.args.self.now rest c.loop-key.cells.entries) c.in-Some.ensures.steps c.loop-key.invariant)
    (subst (λ cell. IsChanged c.loop-key.cells.entries c.insert.new.self.entries c.in-Some.key.now (Some cell)) c.in_ok-copy.ensures
    (changed_is c.loop-key.cells.entries c.insert.new.self.entries c.in-Some.key.now (Some c.in_ok-copy.field-0) c.in_ok-insert.ensures.updates.0))

-- all cells are copied
all : (c : goal.After-result-1) → IsCopied c.args.self.now [] c.loop-key.cells.entries
all c = subst (λ rest. IsCopied c.args.self.now rest c.loop-key.cells.entries) c.in-None.ensures.steps.0 c.loop-key.invariant

pub invariant_of-result : goal.invariant_of-result
invariant_of-result c = copied_full c.args.self.now c.loop-key.cells.entries (all c) (subst NoneIsEmpty c.self.view_is c.self.invariant)

pub returns : goal.returns
returns c = copied_all c.args.self.now c.loop-key.cells.entries (all c)
