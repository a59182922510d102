use Rattle.std.proofs.Common.{◌≡◌, ◌+◌, Bool, refl, sym, ap, ◌∙◌, subst, inl, inr, arith}
use Rattle.flow_model.specs.Legal.{IsLegal, IsWhole}
use Rattle.flow_model.specs.CellsAfter.{cells_after}
use Rattle.flow_core.specs.States.{CoreState, setup_in}
use Rattle.flux_cells.specs.Kept.{cells_of}
use Rattle.flux_doors.proofs.Keeping.{later_kept}
use Rattle.flux_serve.specs.declared.batches.Run.{Run}
use Rattle.flux_serve.specs.declared.orders.BatchOrder.{BatchOrder}
use Rattle.flux_serve.specs.Orders.{IsInOrder}
use Rattle.flux_serve.specs.Batches.{batch_setup}
use Rattle.flux_serve.specs.Ends.{sight_of}
use Rattle.flux_serve.specs.steps.Batches.{service_in}
use Rattle.flux_serve.proofs.Driven.{ran_of, undriven_of}
use Rattle.flux_serve.proofs.AtOnceDriven.{TakenBack, all-answered, begun-of}
use Rattle.flux_serve.proofs.batches_at_once.drive_batch_at_once.Goals as goal

pub returns-in-Err-clause-none : goal.returns-in-Err-clause-none
returns-in-Err-clause-none g c log = inl (c.in-Err.ensures.none log)

pub returns-in-Err-prepare-clause-none : goal.returns-in-Err-prepare-clause-none
returns-in-Err-prepare-clause-none g c log =
    inl (undriven_of g.D.Link.Link.seen c.args.served.now.framing (sight_of (g.D.Door.seen c.args.door.now) log) (sight_of (g.D.Door.seen c.give_back_read.new.door) log)
    (g.D.Door.seen c.take.new.door).to_come (g.D.Door.seen c.take.new.door).taken_back (g.D.Door.seen c.take.new.door).late c.in-Ok.links.items
    c.in-Ok.ensures.taken c.in-Ok.ensures.back c.give_back_read.ensures.back c.give_back_read.ensures.kept.0 c.give_back_read.ensures.kept.3
    (c.give_back_read.ensures.kept.2 ∙ c.in-Ok.ensures.steady)
    (later_kept (g.D.Door.seen c.args.door.now) (g.D.Door.seen c.take.new.door) (g.D.Door.seen c.give_back_read.new.door) c.take.ensures.later c.give_back_read.ensures.kept).1 refl)

pub returns-then-whole-clause-ran : goal.returns-then-whole-clause-ran
returns-then-whole-clause-ran g c log =
    let service = service_in g.L.Meaning.meaning c.args.served.now in
    let items = c.in-Ok-prepare.prepared.1 in
    let requests = c.in-Ok.links.items in
    let ran = c.run_queues-journal.result in
    let journal = ran.0 in
    let L : CoreState g.row.L.Denot → Type 0 = λ k. IsLegal (setup_in g.L.Meaning.meaning k) journal.entries in
    let W : CoreState g.row.L.Denot → Type 0 = λ k. IsWhole (setup_in g.L.Meaning.meaning k) journal.entries in
    let K : CoreState g.row.L.Denot → Type 0 = λ k. cells_of ran.1 ≡ cells_after (setup_in g.L.Meaning.meaning k) journal.entries in
    let legal : IsLegal (batch_setup service (cells_of c.args.opening) items) journal.entries = subst L c.in-Ok-prepare.ensures.core c.run_queues-journal.ensures.legal in
    let O : BatchOrder → Type 0 = λ o. IsInOrder o (batch_setup service (cells_of c.args.opening) items) journal.entries in
    let run' : Run = record { items = items; journal = journal; cells = ran.1; next = c.args.number + c.len-2.result } in
    ran_of g.D.Link.Link.seen service (cells_of c.args.opening) c.args.number (sight_of (g.D.Door.seen c.args.door.now) log) (sight_of (g.D.Door.seen c.run_queues-journal.new.door) log) requests run' (record {
      to_come = (g.D.Door.seen c.take.new.door).to_come;
      taken_back = (g.D.Door.seen c.take.new.door).taken_back;
      late = (g.D.Door.seen c.take.new.door).late;
      taken = c.in-Ok.ensures.taken;
      back = c.in-Ok.ensures.back;
      each = c.in-Ok-prepare.ensures.read;
      is = c.in-Ok-prepare.ensures.items;
      legal = legal;
      whole = subst W c.in-Ok-prepare.ensures.core (c.run_queues-journal.ensures.whole c.if-whole.true);
      order = subst O (sym c.requires.any) tt;
      cells_ = subst K c.in-Ok-prepare.ensures.core c.run_queues-journal.ensures.cells;
      next_ = ap (λ n. c.args.number + n) (c.len-2.ensures ∙ c.in-Ok.links.ok.0);
      answered = all-answered g.D.Link.Link.seen (batch_setup service (cells_of c.args.opening) items) journal.entries legal requests
          (g.D.Door.seen c.take.new.door).taken_back (g.D.Door.seen c.run_queues-journal.new.door).taken_back ran.2 c.if-whole.true c.run_queues-journal.ensures.back;
      come = c.run_queues-journal.ensures.kept.0;
      late_ = c.run_queues-journal.ensures.kept.3;
      later = (later_kept (g.D.Door.seen c.args.door.now) (g.D.Door.seen c.take.new.door) (g.D.Door.seen c.run_queues-journal.new.door) c.take.ensures.later c.run_queues-journal.ensures.kept).1;
      steady = c.run_queues-journal.ensures.kept.2 ∙ c.in-Ok.ensures.steady;
      log_ = refl;
    })

pub returns-clause-none : goal.returns-clause-none
returns-clause-none g c log =
    let service = service_in g.L.Meaning.meaning c.args.served.now in
    let items = c.in-Ok-prepare.prepared.1 in
    let requests = c.in-Ok.links.items in
    let ran = c.run_queues-journal.result in
    let journal = ran.0 in
    let L : CoreState g.row.L.Denot → Type 0 = λ k. IsLegal (setup_in g.L.Meaning.meaning k) journal.entries in
    let U : CoreState g.row.L.Denot → Type 0 = λ k. IsWhole (setup_in g.L.Meaning.meaning k) journal.entries → ⊥ in
    let B : Bool → Type 0 = λ b. TakenBack g.D.Link.Link.seen b journal.entries requests (g.D.Door.seen c.take.new.door).taken_back (g.D.Door.seen c.run_queues-journal.new.door).taken_back in
    inr (
      refl,
      begun-of g.D.Link.Link.seen service (cells_of c.args.opening) c.args.number (sight_of (g.D.Door.seen c.args.door.now) log) (sight_of (g.D.Door.seen c.run_queues-journal.new.door) log) requests items journal (record {
        to_come = (g.D.Door.seen c.take.new.door).to_come;
        taken_back = (g.D.Door.seen c.take.new.door).taken_back;
        late = (g.D.Door.seen c.take.new.door).late;
        taken = c.in-Ok.ensures.taken;
        back = c.in-Ok.ensures.back;
        each = c.in-Ok-prepare.ensures.read;
        is = c.in-Ok-prepare.ensures.items;
        legal = subst L c.in-Ok-prepare.ensures.core c.run_queues-journal.ensures.legal;
        unfinished = subst U c.in-Ok-prepare.ensures.core (c.run_queues-journal.ensures.broken c.if-whole.false);
        returned = subst B c.if-whole.false c.run_queues-journal.ensures.back;
        come = c.run_queues-journal.ensures.kept.0;
        late_ = c.run_queues-journal.ensures.kept.3;
        later = (later_kept (g.D.Door.seen c.args.door.now) (g.D.Door.seen c.take.new.door) (g.D.Door.seen c.run_queues-journal.new.door) c.take.ensures.later c.run_queues-journal.ensures.kept).1;
        steady = c.run_queues-journal.ensures.kept.2 ∙ c.in-Ok.ensures.steady;
        log_ = refl;
      }),
    )

pub returns-in-Err-prepare-clause-open : goal.returns-in-Err-prepare-clause-open
returns-in-Err-prepare-clause-open g c = c.give_back_read.ensures.kept.1 ∙ c.take.ensures.open

pub returns-in-Err-prepare-clause-later : goal.returns-in-Err-prepare-clause-later
returns-in-Err-prepare-clause-later g c =
    later_kept (g.D.Door.seen c.args.door.now) (g.D.Door.seen c.take.new.door) (g.D.Door.seen c.give_back_read.new.door) c.take.ensures.later c.give_back_read.ensures.kept

pub returns-then-whole-clause-open : goal.returns-then-whole-clause-open
returns-then-whole-clause-open g c = c.run_queues-journal.ensures.kept.1 ∙ c.take.ensures.open

pub returns-then-whole-clause-later : goal.returns-then-whole-clause-later
returns-then-whole-clause-later g c =
    later_kept (g.D.Door.seen c.args.door.now) (g.D.Door.seen c.take.new.door) (g.D.Door.seen c.run_queues-journal.new.door) c.take.ensures.later c.run_queues-journal.ensures.kept

pub returns-clause-open : goal.returns-clause-open
returns-clause-open g c = c.run_queues-journal.ensures.kept.1 ∙ c.take.ensures.open

pub returns-clause-later : goal.returns-clause-later
returns-clause-later g c =
    later_kept (g.D.Door.seen c.args.door.now) (g.D.Door.seen c.take.new.door) (g.D.Door.seen c.run_queues-journal.new.door) c.take.ensures.later c.run_queues-journal.ensures.kept

pub returns-then-whole-clause-bound : goal.returns-then-whole-clause-bound
returns-then-whole-clause-bound g c = omega (arith, c.len-2.ensures, c.in-Ok.links.ok.0, c.in-Ok.ensures.out.1)
