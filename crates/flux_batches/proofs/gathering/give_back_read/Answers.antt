use Rattle.std.proofs.Common.{List, map, ap, subst, arith}
use Rattle.flux_doors.proofs.Keeping.{keeps_none, keeps_twice}
use Rattle.flux_batches.proofs.Giving.{Given, given_none, given_more}
use Rattle.flux_batches.proofs.gathering.give_back_read.Goals as goal

pub links-init : goal.links-init
links-init g c = (given_none (g.D.Door.seen c.args.door.now).taken_back (map (λ request. request.link) c.args.links.items), c.requires, keeps_none (g.D.Door.seen c.args.door.now))

pub links-preserved : goal.links-preserved
links-preserved g c =
    let before = c.links.invariant in
    let P : List g.row.D-Link.Denot → Type 0 = Given (g.D.Door.seen c.args.door.now).taken_back (g.D.Door.seen c.links.door).taken_back (map (λ request. request.link) c.args.links.items) in (
      given_more (g.D.Door.seen c.args.door.now).taken_back (g.D.Door.seen c.links.door).taken_back (g.D.Door.seen c.done.new.self).taken_back (map (λ request. request.link) c.args.links.items) (map (λ request. request.link) c.pop_front.new.self.items) c.in-Some.request.link
          (subst P (ap (map (λ request. request.link)) c.in-Some.ensures.items) before.0) c.done.ensures.back,
      omega (arith, c.done.ensures.out, before.1, c.in-Some.ensures.cases),
      keeps_twice (g.D.Door.seen c.args.door.now) (g.D.Door.seen c.links.door) (g.D.Door.seen c.done.new.self) before.2 c.done.ensures.kept,
    )
