use Rattle.std.specs.Arc.{arc_value}
use Rattle.std.proofs.Common.{ap, refl, ◌∙◌, subst, inl, inr, arith}
use Rattle.flux_outside.specs.Causes.{Rose}
use Rattle.flux_doors.specs.Seen.{SeenDoor, IsLater}
use Rattle.flux_serve.specs.Batches.{Service}
use Rattle.flux_serve.specs.Ends.{Sight, sight_of}
use Rattle.flux_driver.specs.Serving.{HasServedBy, order_of}
use Rattle.flux_driver.proofs.Serves.{service_same, sight_same}
use Rattle.flux_driver.proofs.ServedBy.{unplanned_by, unopened_by}
use Rattle.flux_driver.proofs.serving.serve_ready.Goals as goal

pub returns-in-Err-clause-served : goal.returns-in-Err-clause-served
returns-in-Err-clause-served g c = unplanned_by c.args.service.replying _ _ c.requires.some _ _

pub returns-in-Err-open-clause-served : goal.returns-in-Err-open-clause-served
returns-in-Err-open-clause-served g c =
    let same = c.expect.ensures.kept in
    let P : SeenDoor g.row.D-Link.Denot → Type 0 = λ door. Rose door.faults (g.D.Door.seen c.open.new.self).faults in
    unopened_by c.args.service.replying _ _ c.requires.some _ _ _ (let cause = c.in-Err-open.ensures.cause in subst P same cause.failed)
    (c.open.ensures.back ∙ ap (λ (door : SeenDoor g.row.D-Link.Denot). door.taken_back) same) refl
    (c.open.ensures.to_come ∙ ap (λ (door : SeenDoor g.row.D-Link.Denot). door.to_come) same)
    (c.open.ensures.late ∙ ap (λ (door : SeenDoor g.row.D-Link.Denot). door.late) same)

pub returns-in-Err-clause-opened : goal.returns-in-Err-clause-opened
returns-in-Err-clause-opened g c = inr (tt, refl, record { to_come = refl; taken_back = refl; late = refl; log_ = refl })

pub returns-in-Err-open-clause-opened : goal.returns-in-Err-open-clause-opened
returns-in-Err-open-clause-opened g c =
    let same = c.expect.ensures.kept in
    inr (
      tt,
      c.in-Err-open.ensures.opened ∙ ap (λ (door : SeenDoor g.row.D-Link.Denot). door.open_at) same,
      record {
        to_come = c.open.ensures.to_come ∙ ap (λ (door : SeenDoor g.row.D-Link.Denot). door.to_come) same;
        taken_back = c.open.ensures.back ∙ ap (λ (door : SeenDoor g.row.D-Link.Denot). door.taken_back) same;
        late = c.open.ensures.late ∙ ap (λ (door : SeenDoor g.row.D-Link.Denot). door.late) same;
        log_ = refl;
      },
    )

pub returns-in-Err-open-clause-later : goal.returns-in-Err-open-clause-later
returns-in-Err-open-clause-later g c =
    let cause = c.in-Err-open.ensures.cause in
    let P : SeenDoor g.row.D-Link.Denot → Type 0 = λ door. IsLater door (g.D.Door.seen c.open.new.self) in
    subst P c.expect.ensures.kept (cause.later, omega (arith, c.open.ensures.late))

pub returns-clause-later : goal.returns-clause-later
returns-clause-later g c =
    let cause = c.in-Ok-open.ensures.cause in
    let later = c.serve_batches.ensures.later in
    let P : SeenDoor g.row.D-Link.Denot → Type 0 = λ door. IsLater door (g.D.Door.seen c.serve_batches.new.door) in
    subst P c.expect.ensures.kept (omega (arith, cause.later, later.0), omega (arith, c.open.ensures.late, later.1))

pub returns-clause-opened : goal.returns-clause-opened
returns-clause-opened g c = inl (c.serve_batches.ensures.open ∙ c.in-Ok-open.ensures.opened)

pub returns-clause-served : goal.returns-clause-served
returns-clause-served g c =
    let see = g.D.Link.Link.seen in
    let meaning = g.L.Meaning.meaning in
    let checked = c.args.ready.checked in
    let own : Service = record { program = checked.program; framing = c.args.ready.framing; order = order_of c.args.service.replying; meaning = meaning (arc_value c.args.ready.library) } in
    let after = sight_of (g.D.Door.seen c.serve_batches.new.door) (g.O.Sink.seen c.serve_batches.new.log) in
    let opened = sight_of (g.D.Door.seen c.open.new.self) (g.O.Sink.seen c.args.log.now) in
    let S : Service → Type 0 = λ s. HasServedBy c.args.service.replying see s c.args.service.batches opened after c.serve_batches.result in
    let B : Sight g.row.D-Link.Denot → Type 0 = λ b. HasServedBy c.args.service.replying see own c.args.service.batches b after c.serve_batches.result in
    let D : SeenDoor g.row.D-Link.Denot → Type 0 = λ door. B (sight_of door (g.O.Sink.seen c.args.log.now)) in
    subst D c.expect.ensures.kept
    (subst B (sight_same (g.D.Door.seen c.open.new.self) (g.D.Door.seen c.expect.new.self) (g.O.Sink.seen c.args.log.now)
    c.open.ensures.to_come c.open.ensures.back (let cause = c.in-Ok-open.ensures.cause in cause.steady) c.open.ensures.late)
    (subst S (service_same _ _ _ _ _ _ _ _ c.in-Ok.ensures.program c.in-Ok.ensures.framing c.in-Ok.ensures.order (ap meaning c.in-Ok.ensures.library)) c.serve_batches.ensures.served))
