use Rattle.std.proofs.Common.{sym, ap, subst, ◌∙◌, ◌∷◌, Option, Some, arith}
use Rattle.atomic_table.specs.Table.{rest}
use Rattle.flow_hall.specs.Rule.{WinsOrLoses}
use Rattle.flow_hall.proofs.AtSeats.{try_at}
use Rattle.flow_hall.proofs.halls.Hall.try_turn.Goals as goal

pub compare_exchange-requires : goal.compare_exchange-requires
compare_exchange-requires g c =
    let table = c.self.inside.table.shared in
    let same = ap (λ s. s.hall) c.seat.view_is ∙ c.requires ∙ sym c.self.view_is in (
      c.seat.invariant.table ∙ ap (λ h. h.id) same,
      omega (arith, c.self.invariant.0),
      try_at c.seat.inside.hall.value _ table.table_id table.key.value same c.seat.inside.seat.me c.seat.invariant
          _ c.seat.inside.seat.id,
    )

pub exchange-requires : goal.exchange-requires
exchange-requires g c =
    let same = ap (λ s. s.hall) c.seat.view_is ∙ c.requires ∙ sym c.self.view_is in
    let new = c.compare_exchange.new.seat in
    let won = subst (λ n. WinsOrLoses c.seat.inside.seat.me n new.me) c.if-compare_exchange-ne0.false
    (let tries = c.compare_exchange.ensures.2 in tries.comes) in
    let held = ap (λ m. m.1) won.after_ ∙ ap (λ slots. (0, Some won.core) ∷ slots) (ap (λ m. m.1) c.seat.invariant.me_) in (
      c.compare_exchange.ensures.0 ∙ c.seat.invariant.table ∙ ap (λ h. h.id) same,
      (Some won.core, held ∙ ap (λ slots. (0, Some won.core) ∷ rest slots) (sym held)),
    )
