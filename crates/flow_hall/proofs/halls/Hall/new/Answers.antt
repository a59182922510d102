use Rattle.std.proofs.Common.{sym, ap, subst, ◌∙◌, List, [], ◌∷◌, ◌++◌, Option, Some}
use Rattle.atomic_table.specs.Table.{opening}
use Rattle.flow_core.specs.States.{CoreState}
use Rattle.flow_hall.specs.Rule.{IsHall, first_view}
use Rattle.flow_hall.proofs.Kept.{opens}
use Rattle.flow_hall.proofs.halls.Hall.new.Goals as goal

pub new-requires : goal.new-requires
new-requires g c =
    let core = c.args.core in
    let P : CoreState g.row.L.Denot → List (Option (CoreState g.row.L.Denot)) → Type 0 = λ base slots.
    IsHall base (opening (0 ∷ []) slots (first_view base)) in
    let slots = c.push_reserved.ensures.items ∙ ap (λ xs. xs ++ Some core ∷ []) c.in-Ok.ensures.items in
    subst (λ base. P base c.push_reserved.new.self.items) (sym c.of-base.ensures)
    (subst (P core) (sym slots) (opens core))
