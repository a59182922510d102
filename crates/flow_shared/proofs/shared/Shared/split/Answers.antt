use Rattle.std.proofs.Common.{sym, ap, ◌∙◌, arith}
use Rattle.flow_shared.proofs.AtSeats.{split_at}
use Rattle.flow_shared.proofs.shared.Shared.split.Goals as goal

pub split_seat-other-requires : goal.split_seat-other-requires
split_seat-other-requires g c =
    let table = c.self.inside.table.shared in
    let same = ap (λ s. s.shared) c.seat.view_is ∙ c.requires ∙ sym c.self.view_is in (
      c.seat.invariant.table ∙ ap (λ h. h.id) same,
      omega (arith, c.self.invariant.0),
      split_at c.seat.inside.shared.value _ table.table_id table.key.value same c.seat.inside.seat.me c.seat.invariant
          c.seat.inside.seat.id,
    )
