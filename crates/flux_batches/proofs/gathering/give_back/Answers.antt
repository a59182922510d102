use Rattle.std.proofs.Common.{List, subst, arith}
use Rattle.flux_doors.proofs.Keeping.{keeps_twice}
use Rattle.flux_batches.proofs.Giving.{Given, given_more}
use Rattle.flux_batches.proofs.gathering.give_back.Goals as goal

pub links-preserved : goal.links-preserved
links-preserved g c =
    let before = c.links.invariant in
    let P : List g.row.D-Link.Denot → Type 0 = Given (g.D.Door.seen c.args.door.now).taken_back (g.D.Door.seen c.links.door).taken_back c.args.links.items in (
      given_more (g.D.Door.seen c.args.door.now).taken_back (g.D.Door.seen c.links.door).taken_back (g.D.Door.seen c.done.new.self).taken_back c.args.links.items c.pop_front.new.self.items c.in-Some.link (subst P c.in-Some.ensures.items before.0) c.done.ensures.back,
      omega (arith, c.done.ensures.out, before.1, c.in-Some.ensures.cases),
      keeps_twice (g.D.Door.seen c.args.door.now) (g.D.Door.seen c.links.door) (g.D.Door.seen c.done.new.self) before.2 c.done.ensures.kept,
    )
