use Rattle.std.proofs.Common.{sym, ap, ◌∙◌, arith}
use Rattle.flow_shared.proofs.AtSeats.{join_at, settle_at}
use Rattle.flow_shared.proofs.shared.Shared.join.Goals as goal

pub join_seat-requires : goal.join_seat-requires
join_seat-requires g c =
    let table = c.self.inside.table.shared in
    let same = ap (λ s. s.shared) c.into.view_is ∙ c.requires.into ∙ sym c.self.view_is in
    let same' = ap (λ s. s.shared) c.other.view_is ∙ c.requires.other ∙ sym c.self.view_is in (
      c.into.invariant.table ∙ ap (λ h. h.id) same,
      c.other.invariant.table ∙ ap (λ h. h.id) same',
      ap (λ m. m.1) c.other.invariant.me_,
      omega (arith, c.self.invariant.0),
      join_at c.into.inside.shared.value _ table.table_id table.key.value same c.into.inside.seat.me c.into.invariant
          c.other.inside.shared.value _ c.other.inside.seat.me c.other.invariant same' c.into.inside.seat.id
          c.other.inside.seat.id,
    )

pub load-requires : goal.load-requires
load-requires g c =
    let table = c.self.inside.table.shared in
    let same = ap (λ s. s.shared) c.into.view_is ∙ c.requires.into ∙ sym c.self.view_is in
    let same' = ap (λ s. s.shared) c.other.view_is ∙ c.requires.other ∙ sym c.self.view_is in (
      c.join_seat.ensures.0 ∙ c.into.invariant.table ∙ ap (λ h. h.id) same,
      omega (arith, c.self.invariant.0),
      settle_at c.into.inside.shared.value _ table.table_id table.key.value same c.into.inside.seat.me c.into.invariant
          c.other.inside.shared.value _ c.other.inside.seat.me c.other.invariant same' c.join_seat.new.seat.me
          c.join_seat.ensures.2 _ c.join_seat.new.seat.id,
    )
