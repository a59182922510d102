use Rattle.std.proofs.Common.{◌≡◌, List, length, sym, subst, ◌∙◌}
use Rattle.flux_serve.specs.declared.replies.PendingReply.{PendingReply}
use Rattle.flux_serve.specs.steps.PendingReplies.{AreRepliesSoFar}
use Rattle.flux_serve.proofs.Working.{keeps-are}
use Rattle.flux_serve.proofs.workers.answer_all.Goals as goal

pub returns-clause-replies : goal.returns-clause-replies
returns-clause-replies g c =
    let see = g.K.Link.seen in
    let there = c.make_contiguous.ensures in
    let all = c.make_contiguous.result.now in
    let long : length c.rounds.new.replies ≡ length all = c.rounds.auto.replies in
    let seat = c.rounds.result in
    let S : List (PendingReply g.row.K.Denot) → Type 0 = λ l. AreRepliesSoFar see seat.seen l c.rounds.new.replies in
    let N : List (PendingReply g.row.K.Denot) → Type 0 = λ l. AreRepliesSoFar see seat.seen c.args.replies.now.items l in
    subst N (sym (there.writes_back c.rounds.new.replies (long ∙ there.len)))
    (subst S there.value (keeps-are see (let first = c.args.seat in first.seen) seat.seen all c.rounds.new.replies long c.rounds.ensures.replies))
