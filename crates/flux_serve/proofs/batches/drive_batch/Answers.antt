use Rattle.std.proofs.Common.{◌+◌, List, refl, ◌∙◌, subst, ap, arith}
use Rattle.flow_model.specs.declared.journals.Entry.{Entry}
use Rattle.flux_cells.specs.Kept.{cells_of}
use Rattle.flux_doors.proofs.Keeping.{later_kept}
use Rattle.flux_batches.specs.Replies.{AreAllAnswered}
use Rattle.flux_serve.specs.Ends.{sight_of}
use Rattle.flux_serve.specs.steps.Batches.{service_in}
use Rattle.flux_serve.proofs.Driven.{ran_of, undriven_of}
use Rattle.flux_serve.proofs.batches.drive_batch.Goals as goal

pub returns-in-Ok-run_links-clause-ran : goal.returns-in-Ok-run_links-clause-ran
returns-in-Ok-run_links-clause-ran g c log =
    let run' = c.in-Ok-run_links.run' in
    let requests = c.in-Ok.links.items in
    let A : List Entry → Type 0 = λ e. AreAllAnswered g.D.Link.Link.seen e requests (g.D.Door.seen c.take.new.door).taken_back (g.D.Door.seen c.answer_links.new.door).taken_back in
    ran_of g.D.Link.Link.seen (service_in g.L.Meaning.meaning c.args.served.now) (cells_of c.args.opening) c.args.number (sight_of (g.D.Door.seen c.args.door.now) log) (sight_of (g.D.Door.seen c.answer_links.new.door) log) requests run' (record {
      to_come = (g.D.Door.seen c.take.new.door).to_come;
      taken_back = (g.D.Door.seen c.take.new.door).taken_back;
      late = (g.D.Door.seen c.take.new.door).late;
      taken = c.in-Ok.ensures.taken;
      back = c.in-Ok.ensures.back;
      each = c.in-Ok-run_links.ensures.read;
      is = c.in-Ok-run_links.ensures.items;
      legal = c.in-Ok-run_links.ensures.legal;
      whole = c.in-Ok-run_links.ensures.whole;
      order = c.in-Ok-run_links.ensures.order;
      cells_ = c.in-Ok-run_links.ensures.cells;
      next_ = c.in-Ok-run_links.ensures.next ∙ ap (λ n. c.args.number + n) c.in-Ok.links.ok.0;
      answered = subst A c.as_slice.ensures c.answer_links.ensures.answered;
      come = c.answer_links.ensures.kept.0;
      late_ = c.answer_links.ensures.kept.3;
      later = (later_kept (g.D.Door.seen c.args.door.now) (g.D.Door.seen c.take.new.door) (g.D.Door.seen c.answer_links.new.door) c.take.ensures.later c.answer_links.ensures.kept).1;
      steady = c.answer_links.ensures.kept.2 ∙ c.in-Ok.ensures.steady;
      log_ = refl;
    })

pub returns-in-Err-run_links-clause-none : goal.returns-in-Err-run_links-clause-none
returns-in-Err-run_links-clause-none g c log =
    undriven_of g.D.Link.Link.seen c.args.served.now.framing (sight_of (g.D.Door.seen c.args.door.now) log) (sight_of (g.D.Door.seen c.give_back_read.new.door) log)
    (g.D.Door.seen c.take.new.door).to_come (g.D.Door.seen c.take.new.door).taken_back (g.D.Door.seen c.take.new.door).late c.in-Ok.links.items
    c.in-Ok.ensures.taken c.in-Ok.ensures.back c.give_back_read.ensures.back c.give_back_read.ensures.kept.0 c.give_back_read.ensures.kept.3
    (c.give_back_read.ensures.kept.2 ∙ c.in-Ok.ensures.steady)
    (later_kept (g.D.Door.seen c.args.door.now) (g.D.Door.seen c.take.new.door) (g.D.Door.seen c.give_back_read.new.door) c.take.ensures.later c.give_back_read.ensures.kept).1 refl

pub returns-in-Ok-run_links-clause-open : goal.returns-in-Ok-run_links-clause-open
returns-in-Ok-run_links-clause-open g c = c.answer_links.ensures.kept.1 ∙ c.take.ensures.open

pub returns-in-Ok-run_links-clause-later : goal.returns-in-Ok-run_links-clause-later
returns-in-Ok-run_links-clause-later g c =
    later_kept (g.D.Door.seen c.args.door.now) (g.D.Door.seen c.take.new.door) (g.D.Door.seen c.answer_links.new.door) c.take.ensures.later c.answer_links.ensures.kept

pub returns-in-Err-run_links-clause-open : goal.returns-in-Err-run_links-clause-open
returns-in-Err-run_links-clause-open g c = c.give_back_read.ensures.kept.1 ∙ c.take.ensures.open

pub returns-in-Err-run_links-clause-later : goal.returns-in-Err-run_links-clause-later
returns-in-Err-run_links-clause-later g c =
    later_kept (g.D.Door.seen c.args.door.now) (g.D.Door.seen c.take.new.door) (g.D.Door.seen c.give_back_read.new.door) c.take.ensures.later c.give_back_read.ensures.kept

pub returns-in-Ok-run_links-clause-bound : goal.returns-in-Ok-run_links-clause-bound
returns-in-Ok-run_links-clause-bound g c = omega (arith, c.in-Ok-run_links.ensures.next, c.in-Ok.ensures.out.1)
