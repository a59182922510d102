use Rattle.std.proofs.Common.{sym, ap, subst, ◌∙◌, arith, Option}
use Rattle.atomic_table.specs.Table.{Me, Allows}
use Rattle.flow_core.specs.States.{CoreState}
use Rattle.flow_core.specs.Runs.{GoesOn}
use Rattle.flow_hall.specs.declared.views.View.{View}
use Rattle.flow_hall.specs.Rule.{IsHall, GivesTurn}
use Rattle.flow_hall.proofs.AtSeats.{give_at}
use Rattle.flow_hall.proofs.halls.Hall.give.Goals as goal

pub store-requires : goal.store-requires
store-requires g c =
    let table = c.self.inside.table.shared in
    let held = c.held.inside in
    let same = ap (λ h. h.hall) c.held.view_is ∙ c.requires.hall ∙ sym c.self.view_is in
    let on = subst (λ h. GoesOn h.found c.args.turn.core) (sym c.held.view_is) c.requires.on in
    let M : Type 0 = Me (Option (CoreState g.row.L.Denot)) (View g.row.L.Denot) in
    let P : M → Type 0 = λ me.
    Allows (IsHall table.key.value) table.table_id.slots c.exchange.new.seat.id me 0 (λ n. 0) (λ n. GivesTurn me) in (
      c.exchange.ensures.0 ∙ c.held.invariant.table ∙ ap (λ h. h.id) same,
      omega (arith, c.self.invariant.0),
      subst P (sym {A = M} c.exchange.ensures.3)
          (give_at held.hall.value _ table.table_id table.key.value same held.found.value held.seat.me c.held.invariant
          c.args.turn.core on table.table_id.slots c.exchange.new.seat.id c.self.invariant.1),
    )
