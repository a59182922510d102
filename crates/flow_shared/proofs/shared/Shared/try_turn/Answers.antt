use Rattle.std.proofs.Common.{sym, ap, subst, ◌∙◌, ◌∷◌, Some, arith}
use Rattle.atomic_table.specs.Table.{rest}
use Rattle.flow_shared.specs.Rule.{WinsOrLoses, IsOnTurn}
use Rattle.flow_shared.proofs.AtSeats.{try_at}
use Rattle.flow_shared.proofs.Results.{won_at, taken_is}
use Rattle.flow_shared.proofs.shared.Shared.try_turn.Goals as goal

pub compare_exchange-requires : goal.compare_exchange-requires
compare_exchange-requires g c =
    let table = c.self.inside.table.shared in
    let same = ap (λ s. s.shared) c.seat.view_is ∙ c.requires ∙ sym c.self.view_is in (
      c.seat.invariant.table ∙ ap (λ h. h.id) same,
      omega (arith, c.self.invariant.0),
      try_at c.seat.inside.shared.value _ table.table_id table.key.value same c.seat.inside.seat.me c.seat.invariant
          _ c.seat.inside.seat.id,
    )

pub exchange-requires : goal.exchange-requires
exchange-requires g c =
    let same = ap (λ s. s.shared) c.seat.view_is ∙ c.requires ∙ sym c.self.view_is in
    let new = c.compare_exchange.new.seat in
    let won = subst (λ n. WinsOrLoses c.seat.inside.seat.me n new.me) c.if-compare_exchange-ne0.false c.compare_exchange.ensures.2 in
    let held = ap (λ m. m.1) won.after_ ∙ ap (λ slots. (0, Some won.core) ∷ slots) (ap (λ m. m.1) c.seat.invariant.me_) in (
      c.compare_exchange.ensures.0 ∙ c.seat.invariant.table ∙ ap (λ h. h.id) same,
      (Some won.core, held ∙ ap (λ slots. (0, Some won.core) ∷ rest slots) (sym held)),
    )

pub invariant_of-result-2 : goal.invariant_of-result-2
invariant_of-result-2 g c =
    let shared = c.seat.inside.shared.value in
    let me = c.seat.inside.seat.me in
    let after = c.compare_exchange.new.seat.me in
    let id = c.exchange.new.seat.table_id in
    let table = c.exchange.ensures.0 ∙ c.compare_exchange.ensures.0 ∙ c.seat.invariant.table in
    let won = subst (λ n. WinsOrLoses me n after) c.if-compare_exchange-ne0.false c.compare_exchange.ensures.2 in
    let core = taken_is shared id table me after won c.exchange.result c.exchange.ensures.2 c.in-Some.core c.in-Some.is in
    subst (λ found. IsOnTurn shared id found c.exchange.new.seat.me) (core ∙ sym c.of-found.ensures)
    (won_at shared id table c.seat.inside.seat.table_id me after c.exchange.new.seat.me c.seat.invariant won
    c.exchange.ensures.3)
