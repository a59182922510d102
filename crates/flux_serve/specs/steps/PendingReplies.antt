-- Links that workers answer: dealt by their flows' numbers, and taken back in order. No promise
-- cites it.
use Rattle.std.specs.Prelude.{◌≡◌, ℕ, ◌%◌, ◌≤◌, ◌⊎◌, Bool, true, false, ◌==◌, if◌then◌else◌}
use Rattle.std.specs.Prelude.{MatchBool, List, [], ◌∷◌, ◌++◌, None, ⊤}
use Rattle.std.specs.VecDeque.{deque_len, deque_capacity}
use Rattle.flow_model.specs.declared.journals.Entry.{Entry}
use Rattle.flux_laws.specs.Growth.{has_ended}
use Rattle.flux_outside.specs.Streams.{WroteOrBroke}
use Rattle.flux_doors.specs.Seen.{SeenLink, IsUnread}
use Rattle.flux_batches.specs.declared.reading.Sent.{Sent}
use Rattle.flux_batches.specs.declared.reading.Sent.TheVariants.{Text, Failed, Memory}
use Rattle.flux_batches.specs.declared.reading.ReadLink.{ReadLink}
use Rattle.flux_batches.specs.Replies.{reply_of, flow_behind, IsAnswered}
use Rattle.flux_serve.specs.declared.replies.PendingReply.{PendingReply}
use Rattle.flux_serve.specs.declared.queues.WorkerQueue.{WorkerQueue}

-- ---- links, and what workers did with them

-- a link sent a text
abbrev pub HasText : Sent → Type 0
HasText (Text text) = ⊤
HasText Failed = ⊥
HasText Memory = ⊥

-- a link that is to be answered by a flow
abbrev pub to_answer : {K : Type 0} → ReadLink K → ℕ → PendingReply K
to_answer request flow = record { request = request; flow = record { 0 = flow }; written = false }

-- a link with an item was written the reply that its flow had in a front of some entries, with its
-- `end` there
pub record IsFromFront (entries : List Entry) (flow : ℕ) (before after : SeenLink)
    (sent : Sent) : Type 0 where
  pub text : HasText sent
  pub front : List Entry
  pub more : List Entry
  pub is : entries ≡ front ++ more
  pub ended : has_ended front flow ≡ true
  pub wrote : WroteOrBroke before.stream after.stream (reply_of flow front)

-- and is marked as written
pub record WasReplied {K : Type 0} (see : K → SeenLink) (entries : List Entry)
    (old new : PendingReply K) : Type 0 where
  pub sent_ : let request = old.request in let request' = new.request in request'.sent ≡ request.sent
  pub written_ : new.written ≡ true
  pub same : let request = old.request in let request' = new.request in IsUnread (see request.link) (see request'.link)
  pub from : let request = old.request in let request' = new.request in let flow = old.flow in
      IsFromFront entries flow.0 (see request.link) (see request'.link) request.sent

-- a link is as it was, or was written so
abbrev pub IsReplySoFar : {K : Type 0} → (K → SeenLink) → List Entry → PendingReply K
    → PendingReply K → Type 0
IsReplySoFar see entries old new = (new ≡ old) ⊎ WasReplied see entries old new

-- each of some links, at its place
abbrev pub AreRepliesSoFar : {K : Type 0} → (K → SeenLink) → List Entry → List (PendingReply K)
    → List (PendingReply K) → Type 0
AreRepliesSoFar see entries [] [] = ⊤
AreRepliesSoFar see entries [] (new ∷ news) = ⊥
AreRepliesSoFar see entries (old ∷ olds) [] = ⊥
AreRepliesSoFar see entries (old ∷ olds) (new ∷ news) =
    IsReplySoFar see entries old new × AreRepliesSoFar see entries olds news

-- ---- shares

-- a worker's share of links, from a flow on: those whose flow's number modulo the number of workers
-- is its own one
abbrev pub share : {K : Type 0} → ℕ → ℕ → ℕ → List (ReadLink K) → List (PendingReply K)
share workers worker flow [] = []
share workers worker flow (request ∷ rest) =
    (if flow % workers == worker then to_answer request flow ∷ [] else [])
    ++ share workers worker (flow_behind flow request.sent) rest

-- a queue with no link yet and no seat, and room for so many links
pub record IsEmptyQueue {S K : Type 0} (room : ℕ) (queue : WorkerQueue S K) : Type 0 where
  pub none : let replies = queue.replies in replies.items ≡ []
  pub count : deque_len queue.replies ≡ 0
  pub room_ : room ≤ deque_capacity queue.replies
  pub seat_ : queue.seat ≡ None

-- ---- links that are taken back

-- a link that was taken back: of a batch that was driven whole, and of any other
abbrev pub IsBack : Bool → List Entry → ℕ → SeenLink → SeenLink → Sent → Type 0
IsBack whole entries flow before after sent =
    MatchBool whole (IsAnswered entries flow before after sent) (after.stream ≡ before.stream)
    ⊎ IsFromFront entries flow before after sent

-- that of a link that is to be answered
abbrev pub IsBackOf : {K : Type 0} → (K → SeenLink) → Bool → List Entry → PendingReply K → K
    → Type 0
IsBackOf see whole entries reply link =
    let request = reply.request in let flow = reply.flow in
    IsUnread (see request.link) (see link)
    × IsBack whole entries flow.0 (see request.link) (see link) request.sent

-- links were given back as these, from a flow on, each at its place; those are left, from a flow on
abbrev pub AreBack : {K : Type 0} → (K → SeenLink) → Bool → List Entry → ℕ → List (ReadLink K)
    → List K → List (ReadLink K) → ℕ → Type 0
AreBack see whole entries flow requests [] left next = (requests ≡ left) × (flow ≡ next)
AreBack see whole entries flow [] (back ∷ backs) left next = ⊥
AreBack see whole entries flow (request ∷ rest) (back ∷ backs) left next =
    IsUnread (see request.link) (see back)
    × IsBack whole entries flow (see request.link) (see back) request.sent
    × AreBack see whole entries (flow_behind flow request.sent) rest backs left next
