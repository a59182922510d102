use Rattle.std.proofs.Common.{◌≡◌, ℕ, ◌+◌, ◌%◌, ◌<◌, List, [], length, slice_index_or, slice_set, sym, refl, ap, subst, ◌∙◌, arith}
use Rattle.std.proofs.Math.Nat.{mod-lt}
use Rattle.std.proofs.lemmas.List.{length-set}
use Rattle.std.specs.VecDeque.{deque_len}
use Rattle.flux_batches.specs.declared.reading.ReadLink.{ReadLink}
use Rattle.flux_serve.specs.declared.queues.WorkerQueue.{WorkerQueue}
use Rattle.flux_serve.specs.steps.PendingReplies.{share}
use Rattle.flux_serve.proofs.Dealing.{DealtSo, replies_of, none-left, dealt-start, dealt-more, dealt-all}
use Rattle.flux_serve.proofs.queues.deal.Goals as goal

pub links-init : goal.links-init
links-init g c = (
  dealt-start c.args.queues.now c.args.links.items (deque_len c.args.links) c.requires.empty,
  omega (arith, c.requires.few),
  refl,
)

pub links-preserved : goal.links-preserved
links-preserved g c =
    let before = c.links.invariant in
    let queues = c.links.queues in
    let flow = c.links.flow in
    let worker = flow % length queues in
    let or = c.index-queues-worker.result in
    let queue : WorkerQueue g.row.S.Denot g.row.K.Denot = record {
      seat = (let old = slice_index_or queues worker or in old.seat);
      replies = c.push_back_reserved.new.self;
    } in
    let rest = c.pop_front.new.self.items in
    let room = deque_len c.pop_front.new.self in
    let some : 0 < length queues = omega (arith, before.2, c.requires.some) in
    let I : List (ReadLink g.row.K.Denot) → Type 0 = λ l. DealtSo queues c.args.links.items l flow (room + 1) in
    let R : ℕ → Type 0 = λ n. DealtSo queues c.args.links.items c.links.links.items flow n in
    let F : ℕ → Type 0 = λ n. DealtSo (slice_set queues worker queue) c.args.links.items rest n room in
    let there = subst I c.in-Some.ensures.items (subst R (sym c.in-Some.ensures.cases) before.0) in
    let more = dealt-more queues c.args.links.items rest flow room c.in-Some.request worker or queue refl (mod-lt flow some)
    c.push_back_reserved.ensures.items c.push_back_reserved.ensures.len c.push_back_reserved.ensures.capacity refl there in (
      subst F (sym c.flow_behind-next.ensures.flow) more,
      omega (arith, c.flow_behind-next.ensures.bound, before.1, c.in-Some.ensures.cases),
      length-set queues worker queue ∙ before.2,
    )

pub returns-clause-dealt : goal.returns-clause-dealt
returns-clause-dealt g c worker none below =
    let before = c.links.invariant in
    let left = c.links.links.items in
    let empty : left ≡ [] = none-left left c.pop_front.new.self.items c.pop_front.result c.in_default.is c.pop_front.ensures.items c.pop_front.ensures.rest in
    let S : ℕ → Type 0 = λ n. replies_of (slice_index_or c.links.queues worker none) ≡ share n worker 0 c.args.links.items in
    subst S before.2 (dealt-all c.links.queues c.args.links.items left c.links.flow (deque_len c.links.links) before.0 (ap length empty) worker none (omega (arith, below, before.2)))
