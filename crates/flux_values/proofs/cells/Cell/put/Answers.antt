use Rattle.std.proofs.Common.{◌≡◌, ap, subst, ◌∙◌, [], refl}
use Rattle.std.specs.FinMap.{from_sorted}
use Rattle.std.proofs.lemmas.Result.{on_ok_weaker}
use Rattle.flux_values.specs.steps.Cells.{held, AreInOrder, edited}
use Rattle.flux_values.proofs.CellLemmas.{put_in_order, edited_is}
use Rattle.flux_values.proofs.cells.Cell.put.Goals as goal

pub invariant_of-self : goal.invariant_of-self
invariant_of-self c =
    let order = subst (λ o. AreInOrder (held o)) c.in-Some.is c.self.invariant in
    put_in_order c.edit_shared.result c.in-Some.shared.value.items c.edit_shared.new.shared.value.items c.args.name c.args.value order c.edit_shared.ensures.ok c.edit_shared.ensures.err

pub returns-in-Some-clause-ok : goal.returns-in-Some-clause-ok
returns-in-Some-clause-ok c =
    let order = subst (λ o. AreInOrder (held o)) c.in-Some.is c.self.invariant in
    let view = subst (λ o. from_sorted (held o) ≡ c.args.self.now) c.in-Some.is c.self.view_is in
    on_ok_weaker c.edit_shared.result (edited_is c.in-Some.shared.value.items c.edit_shared.new.shared.value.items c.args.self.now c.args.name c.args.value order view) c.edit_shared.ensures.ok

pub returns-in_ok-new-in-None-clause-ok : goal.returns-in_ok-new-in-None-clause-ok
returns-in_ok-new-in-None-clause-ok c =
    let view = subst (λ o. from_sorted (held o) ≡ c.args.self.now) c.in-None.is c.self.view_is in
    edited_is [] c.in_ok-new-in-None.field-0.value.items c.args.self.now c.args.name c.args.value refl view
    (ap (λ v. v.items) c.in_ok-new-in-None.ensures.ok ∙ c.in_ok-edit-in-None.ensures.ok ∙ ap (λ es. edited es c.args.name c.args.value) c.new-entries.ensures.items)
