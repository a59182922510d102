use Rattle.std.proofs.Common.{◌≡◌, ◌%◌, ◌<◌, [], ◌∷◌, length, slice_index_or, refl, ap, subst, ◌∙◌, arith}
use Rattle.std.proofs.Math.Nat.{mod-lt}
use Rattle.std.proofs.lemmas.List.{length-set}
use Rattle.flux_doors.specs.Seen.{TakesBack}
use Rattle.flux_doors.proofs.Keeping.{keeps_none, keeps_twice}
use Rattle.flux_batches.specs.Replies.{flow_behind}
use Rattle.flux_serve.specs.declared.queues.WorkerQueue.{WorkerQueue}
use Rattle.flux_serve.proofs.Dealing.{replies_of, none-left, given-start, given-some, given-more}
use Rattle.flux_serve.proofs.queues.give_back_links.Goals as goal

pub links-init : goal.links-init
links-init g c =
    let see = g.D.Link.Link.seen in (
      given-start see c.args.whole c.args.entries.now c.args.came.now.value.items (g.D.Door.seen c.args.door.now).taken_back c.args.queues.now c.args.count c.requires.count c.requires.replies,
      omega (arith, c.requires.few),
      c.requires.out,
      refl,
      keeps_none (g.D.Door.seen c.args.door.now),
    )

pub unreachable-requires : goal.unreachable-requires
unreachable-requires g c =
    let see = g.D.Link.Link.seen in
    let before = c.links.invariant in
    let queues = c.links.queues in
    let worker = c.links.flow % length queues in
    let some : 0 < length queues = omega (arith, before.3, c.requires.some) in
    let none = c.index-queues-worker.result in
    let replies = replies_of (slice_index_or queues worker none) in
    let empty : replies ≡ [] = none-left replies c.pop_front.new.self.items c.pop_front.result c.in_default.is c.pop_front.ensures.items c.pop_front.ensures.rest in
    given-some see c.args.whole c.args.entries.now c.args.came.now.value.items (g.D.Door.seen c.args.door.now).taken_back (g.D.Door.seen c.links.door).taken_back
    queues c.links.flow c.links.left worker refl (mod-lt c.links.flow some) none before.0 c.links-test.true empty

pub links-preserved : goal.links-preserved
links-preserved g c =
    let see = g.D.Link.Link.seen in
    let before = c.links.invariant in
    let queues = c.links.queues in
    let worker = c.links.flow % length queues in
    let some : 0 < length queues = omega (arith, before.3, c.requires.some) in
    let or = c.index-queues-worker.result in
    let queue : WorkerQueue g.row.S.Denot g.row.D-Link.Denot = record {
      seat = (let old = slice_index_or queues worker or in old.seat);
      replies = c.pop_front.new.self;
    } in
    let B : g.row.D-Link.Denot → Type 0 = λ k. TakesBack (g.D.Door.seen c.links.door).taken_back (g.D.Door.seen c.done.new.self).taken_back (k ∷ []) in
    let next = c.flow_behind-flow.ensures.flow ∙ ap (flow_behind c.links.flow) c.answer.ensures.sent in (
      given-more see c.args.whole c.args.entries.now c.args.came.now.value.items (g.D.Door.seen c.args.door.now).taken_back (g.D.Door.seen c.links.door).taken_back
          queues c.links.flow c.links.left worker refl (mod-lt c.links.flow some) c.in-Some.reply c.pop_front.new.self.items or queue
          c.in-Some.ensures.items refl (g.D.Door.seen c.done.new.self).taken_back _ (subst B c.into_link.ensures c.done.ensures.back) c.answer.ensures.back
          before.0 c.links-test.true c.flow_behind-flow.result next,
      omega (arith, c.flow_behind-flow.ensures.bound, before.1, c.links-test.true),
      omega (arith, c.done.ensures.out, before.2),
      length-set queues worker queue ∙ before.3,
      keeps_twice (g.D.Door.seen c.args.door.now) (g.D.Door.seen c.links.door) (g.D.Door.seen c.done.new.self) before.4 c.done.ensures.kept,
    )
