-- What workers do with the flows of their queues. No promise cites it.
use Rattle.std.specs.Prelude.{◌≡◌, ℕ, ◌<◌, List, length, Some, IfSome}
use Rattle.std.specs.List.{slice_index_or}
use Rattle.flow_model.specs.declared.journals.Entry.{Entry}
use Rattle.flow_shared.specs.Journals.{BeginsWith}
use Rattle.flow_shared.specs.States.{SharedState, SeatState}
use Rattle.flux_doors.specs.Seen.{SeenLink}
use Rattle.flux_serve.specs.declared.replies.PendingReply.{PendingReply}
use Rattle.flux_serve.specs.declared.queues.WorkerQueue.{WorkerQueue}
use Rattle.flux_serve.specs.steps.PendingReplies.{IsReplySoFar, AreRepliesSoFar}

-- what was so of a link stays so, where a worker had seen these entries and has seen those
abbrev pub KeepsReply : {K : Type 0} → (K → SeenLink) → List Entry → List Entry → PendingReply K
    → PendingReply K → Type 0
KeepsReply {K} see seen later old new =
    (first : PendingReply K) → IsReplySoFar see seen first old → IsReplySoFar see later first new

-- each of some links, at its place
abbrev pub KeepReplies : {K : Type 0} → (K → SeenLink) → List Entry → List Entry
    → List (PendingReply K) → List (PendingReply K) → Type 0
KeepReplies {K} see seen later olds news = (place : ℕ) (none : PendingReply K) → place < length olds
    → KeepsReply see seen later (slice_index_or olds place none) (slice_index_or news place none)

module _ {L K : Type 0} where
  -- a queue has a seat at what is shared
  pub record HasSeat (shared : SharedState L) (queue : WorkerQueue (SeatState L) K) : Type 0 where
    pub seat : SeatState L
    pub seat_ : queue.seat ≡ Some seat
    pub shared_ : seat.shared ≡ shared

  -- a worker did its work: its links are as what its seat has seen allows
  pub record HasWorked (see : K → SeenLink) (shared : SharedState L)
      (old new : WorkerQueue (SeatState L) K) : Type 0 where
    pub seat : SeatState L
    pub seat_ : new.seat ≡ Some seat
    pub shared_ : seat.shared ≡ shared
    pub replies_ : let replies = old.replies in let replies' = new.replies in AreRepliesSoFar see seat.seen replies.items replies'.items

  -- a queue's seat was joined to another, which has seen what it had seen; its links are as they
  -- were
  pub record WasJoined (seat : SeatState L) (old new : WorkerQueue (SeatState L) K) : Type 0 where
    pub seen_ : IfSome old.seat (λ other. BeginsWith seat.seen other.seen)
    pub replies_ : new.replies ≡ old.replies
