use Rattle.std.proofs.Common.{ℕ, [], List, Option, refl, sym, ◌∙◌, subst, inl, inr, arith}
use Rattle.flux_doors.specs.Seen.{TakesBack}
use Rattle.flux_batches.specs.Gathered.{AreGathered}
use Rattle.flux_doors.proofs.Keeping.{later_kept}
use Rattle.flux_batches.proofs.Giving.{back_none}
use Rattle.flux_serve.proofs.Unwritten.{unwritten_same}
use Rattle.flux_serve.proofs.batches.take.Goals as goal

pub returns-in-Err-Memory-clause-none : goal.returns-in-Err-Memory-clause-none
returns-in-Err-Memory-clause-none g c log = record {
  came = [];
  backs = [];
  formed = inr (refl, c.in-Err-Memory.ensures.kept (λ e. absurd cc), c.in-Err-Memory.ensures.no_later);
  size = omega arith;
  back = c.gather.ensures.back ∙ back_none (g.D.Door.seen c.args.door.now).taken_back;
  unwritten = tt;
  steady = c.gather.ensures.unless (λ e. absurd cc);
  later = c.gather.ensures.later.1;
  log_ = refl;
}

pub returns-in-Err-clause-none : goal.returns-in-Err-clause-none
returns-in-Err-clause-none g c log =
    let before = g.D.Door.seen c.args.door.now in
    let mid = g.D.Door.seen c.gather.new.door in
    let after = g.D.Door.seen c.give_back.new.door in
    let P : Option (List g.row.D-Link.Denot) → Type 0 = λ b. TakesBack b after.taken_back c.in-Err.links.items in
    let came = c.in-Err.links.items in
    let G : List g.row.D-Link.Denot → Type 0 = λ l. AreGathered before.to_come mid.to_come before.late mid.late l in
    let C : Option (List (List g.row.D-Link.Denot)) → Type 0 = λ t. AreGathered before.to_come t before.late mid.late came in
    let N : ℕ → Type 0 = λ n. AreGathered before.to_come after.to_come before.late n came in
    record {
      came = c.in-Err.links.items;
      backs = c.in-Err.links.items;
      formed = inl (subst N (sym c.give_back.ensures.kept.3) (subst C (sym c.give_back.ensures.kept.0) (subst G (sym c.in-Err.ensures.unread.0) c.in-Ok.ensures.links)));
      size = omega (arith, c.in-Err.links.ok.0, c.in-Err.ensures.unread.1, c.in-Ok.ensures.some.1);
      back = subst P c.gather.ensures.back c.give_back.ensures.back;
      unwritten = unwritten_same g.D.Link.Link.seen c.args.framing c.in-Err.links.items;
      steady = c.give_back.ensures.kept.2 ∙ c.in-Ok.ensures.steady;
      later = (later_kept before mid after c.gather.ensures.later c.give_back.ensures.kept).1;
      log_ = refl;
    }
