use Rattle.std.proofs.Common.{All, List, [], None, sym, refl, subst, arith}
use Rattle.std.proofs.lemmas.List.Elements.{All-append, All-cons, All-nil}
use Rattle.flux_serve.specs.declared.queues.WorkerQueue.{WorkerQueue}
use Rattle.flux_serve.specs.steps.PendingReplies.{IsEmptyQueue}
use Rattle.flux_serve.proofs.queues.empty_queues.Goals as goal

pub loop-preserved : goal.loop-preserved
loop-preserved g c =
    let P : WorkerQueue g.row.S.Denot g.row.K.Denot → Type 0 = IsEmptyQueue c.args.room in
    let one : P (record { seat = None; replies = c.in_ok-replies.replies }) = record {
      none = c.in_ok-replies.ensures.items;
      count = c.in_ok-replies.ensures.len;
      room_ = c.in_ok-replies.ensures.capacity;
      seat_ = refl;
    } in
    let A : List (WorkerQueue g.row.S.Denot g.row.K.Denot) → Type 0 = λ l. All P l in (
      omega (arith, c.loop.invariant.0, c.in_ok-push.ensures.len),
      subst A (sym c.in_ok-push.ensures.items) (All-append P c.loop.queues.items _ c.loop.invariant.1 (All-cons P _ [] one (All-nil P))),
    )
