use Rattle.std.proofs.Common.{sym, ap, subst, ◌∙◌, List, [], ◌∷◌, ◌++◌, Option, Some}
use Rattle.atomic_table.specs.Table.{opening}
use Rattle.flow_core.specs.States.{CoreState}
use Rattle.flow_shared.specs.Rule.{IsShared, first_view}
use Rattle.flow_shared.proofs.Kept.{opens}
use Rattle.flow_shared.proofs.Results.{first_at}
use Rattle.flow_shared.proofs.shared.Shared.new.Goals as goal

pub new-requires : goal.new-requires
new-requires g c =
    let core = c.args.core in
    let P : CoreState g.row.L.Denot → List (Option (CoreState g.row.L.Denot)) → Type 0 = λ base slots.
    IsShared base (opening (0 ∷ []) slots (first_view base)) in
    let slots = c.push_reserved.ensures.items ∙ ap (λ xs. xs ++ Some core ∷ []) c.in-Ok.ensures.items in
    subst (λ base. P base c.push_reserved.new.self.items) (sym c.of-base.ensures)
    (subst (P core) (sym slots) (opens core))

pub invariant_of-result : goal.invariant_of-result
invariant_of-result g c =
    let made = c.in-Ok-new.ensures.ok in
    let known = sym c.of-known.ensures in
    first_at c.of-known.result.value c.in-Ok-new.seat.table_id (made.2 ∙ ap (λ s. s.id) known) c.in-Ok-new.seat.me
    (made.4 ∙ ap (λ key. (first_view key.value, [])) (sym made.5) ∙ ap (λ s. (first_view s.base, [])) known)
