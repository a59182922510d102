use Rattle.std.proofs.Common.{sym, ap, subst, ◌∙◌, arith, Option}
use Rattle.atomic_table.specs.Table.{Me, Allows}
use Rattle.flow_core.specs.States.{CoreState}
use Rattle.flow_core.specs.Runs.{GoesOn}
use Rattle.flow_shared.specs.declared.views.View.{View}
use Rattle.flow_shared.specs.Rule.{IsShared, GivesTurn}
use Rattle.flow_shared.proofs.AtSeats.{give_at}
use Rattle.flow_shared.proofs.Results.{given_at}
use Rattle.flow_shared.proofs.shared.Shared.give.Goals as goal

pub store-requires : goal.store-requires
store-requires g c =
    let table = c.self.inside.table.shared in
    let held = c.held.inside in
    let same = ap (λ h. h.shared) c.held.view_is ∙ c.requires.shared ∙ sym c.self.view_is in
    let on = subst (λ h. GoesOn h.found c.args.turn.core) (sym c.held.view_is) c.requires.on in
    let M : Type 0 = Me (Option (CoreState g.row.L.Denot)) (View g.row.L.Denot) in
    let P : M → Type 0 = λ me.
    Allows (IsShared table.key.value) table.table_id.slots c.exchange.new.seat.id me 0 (λ n. 0) (λ n. GivesTurn me) in (
      c.exchange.ensures.0 ∙ c.held.invariant.table ∙ ap (λ h. h.id) same,
      omega (arith, c.self.invariant.0),
      subst P (sym {A = M} c.exchange.ensures.3)
          (give_at held.shared.value _ table.table_id table.key.value same held.found.value held.seat.me c.held.invariant
          c.args.turn.core on table.table_id.slots c.exchange.new.seat.id c.self.invariant.1),
    )

pub invariant_of-result : goal.invariant_of-result
invariant_of-result g c =
    let held = c.held.inside in
    let on = subst (λ h. GoesOn h.found c.args.turn.core) (sym c.held.view_is) c.requires.on in
    given_at held.shared.value c.store.new.seat.table_id
    (c.store.ensures.0 ∙ c.exchange.ensures.0 ∙ c.held.invariant.table) held.seat.table_id held.found.value
    c.args.turn.core held.seat.me c.exchange.new.seat.me c.store.new.seat.me c.held.invariant on c.exchange.ensures.3
    c.store.ensures.2

pub returns-clause-places : goal.returns-clause-places
returns-clause-places g c =
    let held = c.held.inside in
    let on = subst (λ h. GoesOn h.found c.args.turn.core) (sym c.held.view_is) c.requires.on in
    let seated = given_at held.shared.value c.store.new.seat.table_id
    (c.store.ensures.0 ∙ c.exchange.ensures.0 ∙ c.held.invariant.table) held.seat.table_id held.found.value
    c.args.turn.core held.seat.me c.exchange.new.seat.me c.store.new.seat.me c.held.invariant on c.exchange.ensures.3
    c.store.ensures.2 in seated.places_
