-- Queues: links that are dealt, and taken back in order.
use Rattle.std.proofs.Common.{◌≡◌, ◌⊎◌, inl, inr, ℕ, ◌+◌, ◌-◌, ◌%◌, ◌<◌, ◌≤◌, Bool, false, All, List, [], ◌∷◌, ◌++◌, length, slice_index_or, set, drop, Option, None, refl, sym, ap, subst, ◌∙◌, arith}
use Rattle.std.specs.Option.{option_to_list}
use Rattle.std.specs.VecDeque.{deque_len, deque_capacity}
use Rattle.std.proofs.lemmas.Bool.{cases_eq}
use Rattle.std.proofs.lemmas.Grind.{get_or-set_at}
use Rattle.std.proofs.lemmas.List.{get_or-set_other, length-set, append-nil}
use Rattle.std.proofs.lemmas.List.Elements.{All-get_or}
use Rattle.flow_model.specs.declared.journals.Entry.{Entry}
use Rattle.flux_doors.specs.Seen.{SeenLink, TakesBack}
use Rattle.flux_batches.specs.declared.reading.ReadLink.{ReadLink}
use Rattle.flux_batches.specs.Replies.{flow_behind}
use Rattle.flux_batches.proofs.Giving.{back_none, back_more}
use Rattle.flux_serve.specs.declared.replies.PendingReply.{PendingReply}
use Rattle.flux_serve.specs.declared.queues.WorkerQueue.{WorkerQueue}
use Rattle.flux_serve.specs.steps.PendingReplies.{to_answer, IsReplySoFar, AreRepliesSoFar, share, IsEmptyQueue, IsBackOf, AreBack}
use Rattle.flux_serve.proofs.Shares.{share-own, share-other, dealt-own, dealt-other}
use Rattle.flux_serve.proofs.Backs.{back-more}

-- the links of a queue
abbrev pub replies_of : {S K : Type 0} → WorkerQueue S K → List (PendingReply K)
replies_of queue = let replies = queue.replies in replies.items

-- where none is taken of a list, it is empty
pub none-left : {X : Type 0} → (old new : List X) (taken : Option X) → taken ≡ None → old ≡ option_to_list taken ++ new → new ≡ drop 1 old → old ≡ []
none-left {X} old new taken none is rest =
    let P : Option X → Type 0 = λ t. old ≡ option_to_list t ++ new in by old (subst P none is ∙ rest)
  where
    by : (xs : List X) → xs ≡ drop 1 xs → xs ≡ []
    by [] same = refl
    by (x ∷ xs) same = let long = ap length same in absurd (omega (arith, long))

-- ---- dealing

-- so many links are left to deal, and there is room for them
pub record DealtSo {S K : Type 0} (queues : List (WorkerQueue S K)) (all left : List (ReadLink K)) (flow room : ℕ) : Type 0 where
  pub each : (worker : ℕ) (none : WorkerQueue S K) → worker < length queues
      → replies_of (slice_index_or queues worker none) ++ share (length queues) worker flow left ≡ share (length queues) worker 0 all
  pub room_ : (worker : ℕ) (none : WorkerQueue S K) → worker < length queues
      → (let queue = slice_index_or queues worker none in deque_len queue.replies + room ≤ deque_capacity queue.replies)
  pub seats : (worker : ℕ) (none : WorkerQueue S K) → worker < length queues → (let queue = slice_index_or queues worker none in queue.seat ≡ None)

pub dealt-start : {S K : Type 0} → (queues : List (WorkerQueue S K)) (all : List (ReadLink K)) (room : ℕ) → All (IsEmptyQueue room) queues → DealtSo queues all all 0 room
dealt-start {S} {K} queues all room empty = record {
  each = λ worker none below. let queue = empty_at worker none below in ap (λ (l : List (PendingReply K)). l ++ share (length queues) worker 0 all) queue.none;
  room_ = λ worker none below. let queue = empty_at worker none below in omega (arith, queue.count, queue.room_);
  seats = λ worker none below. let queue = empty_at worker none below in queue.seat_;
}
  where
    empty_at : (worker : ℕ) (none : WorkerQueue S K) → worker < length queues → IsEmptyQueue room (slice_index_or queues worker none)
    empty_at worker none below = All-get_or (IsEmptyQueue room) queues worker none below empty

pub dealt-more : {S K : Type 0} → (queues : List (WorkerQueue S K)) (all rest : List (ReadLink K)) (flow room : ℕ) (request : ReadLink K) (worker : ℕ) (or queue : WorkerQueue S K)
    → flow % length queues ≡ worker → worker < length queues
    → replies_of queue ≡ replies_of (slice_index_or queues worker or) ++ to_answer request flow ∷ []
    → (let old = slice_index_or queues worker or in deque_len queue.replies ≡ deque_len old.replies + 1)
    → (let old = slice_index_or queues worker or in deque_capacity queue.replies ≡ deque_capacity old.replies)
    → (let old = slice_index_or queues worker or in queue.seat ≡ old.seat)
    → DealtSo queues all (request ∷ rest) flow (room + 1) → DealtSo (set queues worker queue) all rest (flow_behind flow request.sent) room
dealt-more {S} {K} queues all rest flow room request worker or queue own within items len capacity seat so_far = record {
  each = λ w none below. each-at w none (omega (arith, below, size)) (cases_eq worker w);
  room_ = λ w none below. room-at w none (omega (arith, below, size)) (cases_eq worker w);
  seats = λ w none below. seat-at w none (omega (arith, below, size)) (cases_eq worker w);
}
  where
    size : length (set queues worker queue) ≡ length queues
    size = length-set queues worker queue

    here : (w : ℕ) (none : WorkerQueue S K) → worker ≡ w → slice_index_or (set queues worker queue) w none ≡ queue
    here w none same = get_or-set_at queues worker w queue none (sym same) within

    there : (w : ℕ) (none : WorkerQueue S K) → (worker ≡ w → ⊥) → slice_index_or (set queues worker queue) w none ≡ slice_index_or queues w none
    there w none apart = get_or-set_other queues worker w queue none (λ e. apart (sym e))

    each-at : (w : ℕ) (none : WorkerQueue S K) → w < length queues → (worker ≡ w) ⊎ (worker ≡ w → ⊥)
        → replies_of (slice_index_or (set queues worker queue) w none) ++ share (length (set queues worker queue)) w (flow_behind flow request.sent) rest
        ≡ share (length (set queues worker queue)) w 0 all
    each-at w none below (inl same) =
        let Z : ℕ → Type 0 = λ z. replies_of (slice_index_or (set queues worker queue) w none) ++ share z w (flow_behind flow request.sent) rest ≡ share z w 0 all in
        let D : WorkerQueue S K → Type 0 = λ d. replies_of d ++ share (length queues) w (flow_behind flow request.sent) rest ≡ share (length queues) w 0 all in
        let W : ℕ → Type 0 = λ k. replies_of queue ++ share (length queues) k (flow_behind flow request.sent) rest ≡ share (length queues) k 0 all in
        subst Z (sym size) (subst D (sym (here w none same)) (subst W same
        (dealt-own (length queues) flow request rest worker (replies_of (slice_index_or queues worker or)) (replies_of queue) (share (length queues) worker 0 all) own (so_far.each worker or within) items)))
    each-at w none below (inr apart) =
        let Z : ℕ → Type 0 = λ z. replies_of (slice_index_or (set queues worker queue) w none) ++ share z w (flow_behind flow request.sent) rest ≡ share z w 0 all in
        let D : WorkerQueue S K → Type 0 = λ d. replies_of d ++ share (length queues) w (flow_behind flow request.sent) rest ≡ share (length queues) w 0 all in
        subst Z (sym size) (subst D (sym (there w none apart))
        (dealt-other (length queues) flow request rest w (replies_of (slice_index_or queues w none)) (share (length queues) w 0 all) (λ e. apart (sym own ∙ e)) (so_far.each w none below)))

    room-at : (w : ℕ) (none : WorkerQueue S K) → w < length queues → (worker ≡ w) ⊎ (worker ≡ w → ⊥)
        → (let at = slice_index_or (set queues worker queue) w none in deque_len at.replies + room ≤ deque_capacity at.replies)
    room-at w none below (inl same) =
        let D : WorkerQueue S K → Type 0 = λ d. deque_len d.replies + room ≤ deque_capacity d.replies in
        subst D (sym (here w none same)) (omega (arith, so_far.room_ worker or within, len, capacity))
    room-at w none below (inr apart) =
        let D : WorkerQueue S K → Type 0 = λ d. deque_len d.replies + room ≤ deque_capacity d.replies in
        subst D (sym (there w none apart)) (omega (arith, so_far.room_ w none below))

    seat-at : (w : ℕ) (none : WorkerQueue S K) → w < length queues → (worker ≡ w) ⊎ (worker ≡ w → ⊥)
        → (let at = slice_index_or (set queues worker queue) w none in at.seat ≡ None)
    seat-at w none below (inl same) = ap (λ (d : WorkerQueue S K). d.seat) (here w none same) ∙ seat ∙ so_far.seats worker or within
    seat-at w none below (inr apart) = ap (λ (d : WorkerQueue S K). d.seat) (there w none apart) ∙ so_far.seats w none below

-- nothing is left
pub dealt-all : {S K : Type 0} → (queues : List (WorkerQueue S K)) (all : List (ReadLink K)) (left : List (ReadLink K)) (flow room : ℕ)
    → DealtSo queues all left flow room → length left ≡ 0
    → (worker : ℕ) (none : WorkerQueue S K) → worker < length queues → replies_of (slice_index_or queues worker none) ≡ share (length queues) worker 0 all
dealt-all queues all [] flow room so_far none_left worker none below =
    sym (append-nil (replies_of (slice_index_or queues worker none))) ∙ so_far.each worker none below
dealt-all queues all (request ∷ left) flow room so_far none_left worker none below = absurd (omega (arith, none_left))

-- ---- taking back

-- each queue has its share of the links that are left
abbrev pub Pending : {S K : Type 0} → (K → SeenLink) → List Entry → List (WorkerQueue S K) → ℕ → List (ReadLink K) → Type 0
Pending {S} {K} see entries queues flow rest = (worker : ℕ) (none : WorkerQueue S K) → worker < length queues
    → AreRepliesSoFar see entries (share (length queues) worker flow rest) (replies_of (slice_index_or queues worker none))

-- some links were given back, and so many are left
pub record GivenSo {S K : Type 0} (see : K → SeenLink) (whole : Bool) (entries : List Entry) (requests : List (ReadLink K))
    (before now : Option (List K)) (queues : List (WorkerQueue S K)) (flow left : ℕ) : Type 0 where
  pub backs : List K
  pub rest : List (ReadLink K)
  pub taken : TakesBack before now backs
  pub back : AreBack see whole entries 0 requests backs rest flow
  pub size : length rest ≡ left
  pub pending : Pending see entries queues flow rest

pub given-start : {S K : Type 0} → (see : K → SeenLink) (whole : Bool) (entries : List Entry) (requests : List (ReadLink K))
    (before : Option (List K)) (queues : List (WorkerQueue S K)) (count : ℕ) → length requests ≡ count
    → Pending see entries queues 0 requests → GivenSo see whole entries requests before before queues 0 count
given-start see whole entries requests before queues count size pending = record {
  backs = [];
  rest = requests;
  taken = back_none before;
  back = (refl, refl);
  size = size;
  pending = pending;
}

-- the front of a queue whose share isn't empty
front-of : {K : Type 0} → (see : K → SeenLink) (entries : List Entry) (old : PendingReply K) (olds replies : List (PendingReply K))
    → AreRepliesSoFar see entries (old ∷ olds) replies
    → (reply : PendingReply K) × (tail : List (PendingReply K)) × (replies ≡ reply ∷ tail) × IsReplySoFar see entries old reply × AreRepliesSoFar see entries olds tail
front-of see entries old olds [] are = absurd are
front-of see entries old olds (reply ∷ tail) are = (reply, tail, refl, are.0, are.1)

module _ {S K : Type 0} (see : K → SeenLink) (whole : Bool) (entries : List Entry) (requests : List (ReadLink K))
    (before now : Option (List K)) (queues : List (WorkerQueue S K)) (flow left worker : ℕ) (own : flow % length queues ≡ worker)
    (within : worker < length queues) where
  -- the queue whose turn it is has a link
  pub given-some : (none : WorkerQueue S K) → GivenSo see whole entries requests before now queues flow left → 0 < left
      → replies_of (slice_index_or queues worker none) ≡ [] → ⊥
  given-some none given some empty = by given.rest given.size given.pending
    where
      by : (rest : List (ReadLink K)) → length rest ≡ left → Pending see entries queues flow rest → ⊥
      by [] size pending = absurd (omega (arith, size, some))
      by (request ∷ rest) size pending =
          let are = pending worker none within in
          let there = subst (λ (l : List (PendingReply K)). AreRepliesSoFar see entries l (replies_of (slice_index_or queues worker none)))
          (share-own (length queues) flow request rest worker own) are in
          subst (λ (l : List (PendingReply K)). AreRepliesSoFar see entries (to_answer request flow ∷ share (length queues) worker (flow_behind flow request.sent) rest) l) empty there

  -- it is given back
  module _ (reply : PendingReply K) (tail : List (PendingReply K)) (or queue : WorkerQueue S K) (is : replies_of (slice_index_or queues worker or) ≡ reply ∷ tail)
      (popped : replies_of queue ≡ tail) (later : Option (List K)) (link : K) (taken : TakesBack now later (link ∷ []))
      (back : (first : PendingReply K) → first.written ≡ false → IsReplySoFar see entries first reply → IsBackOf see whole entries first link) where
    sent-is : (request : ReadLink K) → IsReplySoFar see entries (to_answer request flow) reply → (let request' = reply.request in request'.sent ≡ request.sent)
    sent-is request (inl same) = ap (λ (d : PendingReply K). let request' = d.request in request'.sent) same
    sent-is request (inr was) = was.sent_

    pub given-more : GivenSo see whole entries requests before now queues flow left → 0 < left
        → (next : ℕ) → (let request = reply.request in next ≡ flow_behind flow request.sent)
        → GivenSo see whole entries requests before later (set queues worker queue) next (left - 1)
    given-more given some next next_is = by given.rest given.size given.pending given.back
      where
        by : (rest : List (ReadLink K)) → length rest ≡ left → Pending see entries queues flow rest
            → AreBack see whole entries 0 requests given.backs rest flow
            → GivenSo see whole entries requests before later (set queues worker queue) next (left - 1)
        by [] size pending so_far = absurd (omega (arith, size, some))
        by (request ∷ rest) size pending so_far =
            let are = subst (λ (l : List (PendingReply K)). AreRepliesSoFar see entries l (replies_of (slice_index_or queues worker or)))
            (share-own (length queues) flow request rest worker own) (pending worker or within) in
            let front = subst (λ (l : List (PendingReply K)). AreRepliesSoFar see entries (to_answer request flow ∷ share (length queues) worker (flow_behind flow request.sent) rest) l) is are in
            let to : next ≡ flow_behind flow request.sent = next_is ∙ ap (flow_behind flow) (sent-is request front.0) in
            let told = back (to_answer request flow) refl front.0 in
            let F : ℕ → Type 0 = λ n. AreBack see whole entries 0 requests (given.backs ++ link ∷ []) rest n in
            record {
              backs = given.backs ++ link ∷ [];
              rest = rest;
              taken = back_more before now later given.backs link given.taken taken;
              back = subst F (sym to) (back-more see whole entries 0 requests given.backs request rest flow link so_far told.0 told.1);
              size = omega (arith, size);
              pending = λ w none below. pending-more request rest pending front.1 to w none below (cases_eq worker w);
            }
          where
            pending-more : (request : ReadLink K) (rest : List (ReadLink K)) → Pending see entries queues flow (request ∷ rest)
                → AreRepliesSoFar see entries (share (length queues) worker (flow_behind flow request.sent) rest) tail
                → next ≡ flow_behind flow request.sent
                → (w : ℕ) (none : WorkerQueue S K) → w < length (set queues worker queue) → (worker ≡ w) ⊎ (worker ≡ w → ⊥)
                → AreRepliesSoFar see entries (share (length (set queues worker queue)) w next rest) (replies_of (slice_index_or (set queues worker queue) w none))
            pending-more request rest pending own_tail to w none below (inl same) =
                let size : length (set queues worker queue) ≡ length queues = length-set queues worker queue in
                let W : ℕ → Type 0 = λ k. AreRepliesSoFar see entries (share (length queues) k (flow_behind flow request.sent) rest) tail in
                let N : ℕ → Type 0 = λ n. AreRepliesSoFar see entries (share (length queues) w n rest) tail in
                let Z : ℕ → Type 0 = λ z. AreRepliesSoFar see entries (share z w next rest) tail in
                let T : List (PendingReply K) → Type 0 = λ t. AreRepliesSoFar see entries (share (length (set queues worker queue)) w next rest) t in
                let there : slice_index_or (set queues worker queue) w none ≡ queue = get_or-set_at queues worker w queue none (sym same) within in
                subst T (sym (ap replies_of there ∙ popped)) (subst Z (sym size) (subst N (sym to) (subst W same own_tail)))
            pending-more request rest pending own_tail to w none below (inr apart) =
                let size : length (set queues worker queue) ≡ length queues = length-set queues worker queue in
                let old = pending w none (omega (arith, below, size)) in
                let there : slice_index_or (set queues worker queue) w none ≡ slice_index_or queues w none = get_or-set_other queues worker w queue none (λ e. apart (sym e)) in
                let L : List (PendingReply K) → Type 0 = λ l. AreRepliesSoFar see entries l (replies_of (slice_index_or queues w none)) in
                let N : ℕ → Type 0 = λ n. AreRepliesSoFar see entries (share (length queues) w n rest) (replies_of (slice_index_or queues w none)) in
                let Z : ℕ → Type 0 = λ z. AreRepliesSoFar see entries (share z w next rest) (replies_of (slice_index_or queues w none)) in
                let T : WorkerQueue S K → Type 0 = λ t. AreRepliesSoFar see entries (share (length (set queues worker queue)) w next rest) (replies_of t) in
                subst T (sym there) (subst Z (sym size) (subst N (sym to)
                (subst L (share-other (length queues) flow request rest w (λ e. apart (sym own ∙ e))) old)))

-- nothing is left
pub given-all : {S K : Type 0} → (see : K → SeenLink) (whole : Bool) (entries : List Entry) (requests : List (ReadLink K))
    (before now : Option (List K)) (queues : List (WorkerQueue S K)) (flow left : ℕ) → GivenSo see whole entries requests before now queues flow left
    → left ≡ 0 → (backs : List K) × (next : ℕ) × TakesBack before now backs × AreBack see whole entries 0 requests backs [] next
given-all {S} {K} see whole entries requests before now queues flow left given none = (given.backs, flow, given.taken, by given.rest given.size given.back)
  where
    by : (rest : List (ReadLink K)) → length rest ≡ left → AreBack see whole entries 0 requests given.backs rest flow
        → AreBack see whole entries 0 requests given.backs [] flow
    by [] size back = back
    by (request ∷ rest) size back = absurd (omega (arith, size, none))
