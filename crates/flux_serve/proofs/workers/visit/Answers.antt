use Rattle.std.proofs.Common.{◌≡◌, ℕ, true, List, refl, sym, ap, subst, ◌∙◌, inl}
use Rattle.flow_model.specs.declared.journals.Entry.{Entry}
use Rattle.flow_core.specs.States.{CoreState}
use Rattle.flow_core.specs.Runs.{GoesOn}
use Rattle.flow_shared.specs.States.{SeatState}
use Rattle.flux_laws.specs.Growth.{has_ended}
use Rattle.flux_outside.specs.Streams.{WroteOrBroke}
use Rattle.flux_batches.specs.Replies.{reply_of}
use Rattle.flux_serve.proofs.Working.{begins-more, given-shared, given-seen, replied-so}
use Rattle.flux_serve.proofs.workers.visit.Goals as goal

pub give-seat-requires-clause-shared : goal.give-seat-requires-clause-shared
give-seat-requires-clause-shared g c = c.turn-turn.ensures.shared ∙ c.requires.shared

pub give-seat-requires-clause-on : goal.give-seat-requires-clause-on
give-seat-requires-clause-on g c =
    let F : CoreState g.row.L.Denot → Type 0 = λ found. GoesOn found c.go-next.new.core in
    subst F c.turn-turn.ensures.core c.go-next.ensures.on

pub returns-in-Runs-clause-shared : goal.returns-in-Runs-clause-shared
returns-in-Runs-clause-shared g c = c.call.ensures.shared

pub returns-in-Runs-clause-seen : goal.returns-in-Runs-clause-seen
returns-in-Runs-clause-seen g c =
    let first = c.args.seat in
    let given = c.give-seat.result in
    let last = c.call.result.0 in
    begins-more first.seen given.seen last.seen
    (given-seen c.args.seat c.turn-turn.result c.turn-turn.ensures c.go-next.new.core c.go-next.ensures.on c.give-seat.result c.give-seat.ensures.seat) c.call.ensures.seen

pub returns-in-Runs-clause-reply : goal.returns-in-Runs-clause-reply
returns-in-Runs-clause-reply g c = inl refl

pub returns-in-Replies-clause-shared : goal.returns-in-Replies-clause-shared
returns-in-Replies-clause-shared g c =
    given-shared c.args.seat c.turn-turn.result c.turn-turn.ensures c.go-next.new.core c.go-next.ensures.on c.give-seat.result c.give-seat.ensures.seat
    ∙ c.requires.shared

pub returns-in-Replies-clause-seen : goal.returns-in-Replies-clause-seen
returns-in-Replies-clause-seen g c =
    given-seen c.args.seat c.turn-turn.result c.turn-turn.ensures c.go-next.new.core c.go-next.ensures.on c.give-seat.result c.give-seat.ensures.seat

pub returns-in-Stands-clause-shared : goal.returns-in-Stands-clause-shared
returns-in-Stands-clause-shared g c =
    given-shared c.args.seat c.turn-turn.result c.turn-turn.ensures c.go-next.new.core c.go-next.ensures.on c.give-seat.result c.give-seat.ensures.seat
    ∙ c.requires.shared

pub returns-in-Stands-clause-seen : goal.returns-in-Stands-clause-seen
returns-in-Stands-clause-seen g c =
    given-seen c.args.seat c.turn-turn.result c.turn-turn.ensures c.go-next.new.core c.go-next.ensures.on c.give-seat.result c.give-seat.ensures.seat

pub returns-in-Stands-clause-reply : goal.returns-in-Stands-clause-reply
returns-in-Stands-clause-reply g c = inl refl

pub returns-in-Replies-clause-reply : goal.returns-in-Replies-clause-reply
returns-in-Replies-clause-reply g c =
    let see = g.K.Link.seen in
    let old = c.args.reply.now in
    let new = c.write.new.self in
    let request = old.request in
    let request' = new.request in
    let flow = old.flow in
    let seat = c.give-seat.result in
    let is = ap (λ (s : SeatState g.row.L.Denot). s.seen) c.give-seat.ensures.seat in
    let told = c.in-Replies.ensures.next in
    let E : List Entry → Type 0 = λ e. has_ended e flow.0 ≡ true in
    let W : List ℕ → Type 0 = WroteOrBroke (see request.link).stream (see request'.link).stream in
    replied-so see seat.seen old new c.requires.text c.write.ensures.same c.write.ensures.sent c.write.ensures.written
    (subst E (sym is) told.0)
    (subst W (c.as_slice.ensures.value ∙ told.1 ∙ ap (reply_of flow.0) (sym is)) c.write.ensures.wrote)
