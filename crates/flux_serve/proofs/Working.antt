-- What workers do with their links.
use Rattle.std.proofs.Common.{◌≡◌, ◌⊎◌, inl, inr, ℕ, zero, suc, ◌+◌, ◌<◌, true, false, List, [], ◌∷◌, ◌++◌, length, slice_index_or, set, Option, Some, None, refl, sym, ap, subst, ◌∙◌, append_assoc, arith}
use Rattle.std.specs.Prelude.{IfSome}
use Rattle.std.specs.declared.collections.VecDeque.{VecDeque}
use Rattle.std.proofs.Common.{Global}
use Rattle.std.proofs.lemmas.Bool.{cases_eq}
use Rattle.std.proofs.lemmas.Grind.{get_or-set_at}
use Rattle.std.proofs.lemmas.List.{get_or-set_other, length-set, append-nil}
use Rattle.flow_model.specs.declared.journals.Entry.{Entry}
use Rattle.flow_core.specs.States.{CoreState}
use Rattle.flow_core.specs.Runs.{GoesOn}
use Rattle.flow_turns.specs.Turns.{AddsOwn}
use Rattle.flux_model.specs.declared.items.FlowNo.{FlowNo}
use Rattle.flow_shared.specs.Journals.{BeginsWith}
use Rattle.flow_shared.specs.States.{SharedState, SeatState}
use Rattle.flow_shared.specs.Turns.{IsTurnOf, given}
use Rattle.flow_shared.specs.declared.seats.SharedTurn.{SharedTurn}
use Rattle.flux_laws.specs.Growth.{has_ended}
use Rattle.flux_outside.specs.Streams.{WroteOrBroke}
use Rattle.flux_doors.specs.Seen.{SeenLink, IsUnread}
use Rattle.flux_batches.specs.Replies.{reply_of}
use Rattle.flux_serve.specs.declared.replies.PendingReply.{PendingReply}
use Rattle.flux_serve.specs.steps.PendingReplies.{HasText, IsReplySoFar, AreRepliesSoFar}
use Rattle.flux_serve.specs.declared.queues.WorkerQueue.{WorkerQueue}
use Rattle.flux_serve.specs.steps.Workers.{KeepsReply, KeepReplies, HasSeat, HasWorked, WasJoined}
use Rattle.flux_serve.proofs.Shares.{reply-later, replies-each, replies-later}

-- ---- journals

pub begins-same : (entries : List Entry) → BeginsWith entries entries
begins-same entries = ([], sym (append-nil entries))

pub begins-more : (one two three : List Entry) → BeginsWith two one → BeginsWith three two → BeginsWith three one
begins-more one two three first second =
    (first.0 ++ second.0, second.1 ∙ (ap (λ (l : List Entry). l ++ second.0) first.1 ∙ append_assoc one first.0 second.0))

-- ---- turns

-- entries of one flow are some more
pub adds-on : {L : Type 0} → (old new : CoreState L) (flow : FlowNo) → AddsOwn old new flow → GoesOn old new
adds-on old new flow adds = record { setup_ = adds.setup_; more = adds.more; added = adds.added }

module _ {L : Type 0} (seat : SeatState L) (turn : SharedTurn L) (is : IsTurnOf seat turn) (core : CoreState L) (on : GoesOn turn.core core)
    (back : SeatState L) (is_given : (let held = turn.held in back ≡ given held core)) where
  -- a seat whose turn was given
  pub given-shared : back.shared ≡ seat.shared
  given-shared = ap (λ (s : SeatState L). s.shared) is_given ∙ is.shared

  pub given-is : back.seen ≡ core.entries
  given-is = ap (λ (s : SeatState L). s.seen) is_given

  pub given-seen : BeginsWith back.seen seat.seen
  given-seen =
      let found = turn.core in
      let P : List Entry → Type 0 = λ l. BeginsWith l seat.seen in
      subst P (sym given-is) (begins-more seat.seen found.entries core.entries is.seen (on.more, on.added))

-- ---- links

-- at a place of a list it doesn't matter what is in place of an element elsewhere
pub other-default : {X : Type 0} → (xs : List X) (place : ℕ) (one other : X) → place < length xs → slice_index_or xs place one ≡ slice_index_or xs place other
other-default [] place one other below = absurd (omega (arith, below))
other-default (x ∷ xs) zero one other below = refl
other-default (x ∷ xs) (suc place) one other below = other-default xs place one other (omega (arith, below))

module _ {K : Type 0} (see : K → SeenLink) where
  pub reply-so-later : (seen later : List Entry) (old new : PendingReply K) → BeginsWith later seen → IsReplySoFar see seen old new → IsReplySoFar see later old new
  reply-so-later seen later old new begins is =
      let P : List Entry → Type 0 = λ l. IsReplySoFar see l old new in subst P (sym begins.1) (reply-later see seen begins.0 old new is)

  pub replies-so-later : (seen later : List Entry) (old new : List (PendingReply K)) → BeginsWith later seen → AreRepliesSoFar see seen old new → AreRepliesSoFar see later old new
  replies-so-later seen later old new begins are =
      let P : List Entry → Type 0 = λ l. AreRepliesSoFar see l old new in subst P (sym begins.1) (replies-later see seen begins.0 old new are)

  -- a reply was written, of what a worker saw
  pub replied-so : (seen : List Entry) (old new : PendingReply K) → (let request = old.request in HasText request.sent)
      → (let request = old.request in let request' = new.request in IsUnread (see request.link) (see request'.link))
      → (let request = old.request in let request' = new.request in request'.sent ≡ request.sent)
      → new.written ≡ true → (let flow = old.flow in has_ended seen flow.0 ≡ true)
      → (let request = old.request in let request' = new.request in let flow = old.flow in
      WroteOrBroke (see request.link).stream (see request'.link).stream (reply_of flow.0 seen))
      → IsReplySoFar see seen old new
  replied-so seen old new text same sent written ended wrote = inr (record {
    sent_ = sent;
    written_ = written;
    same = same;
    from = record { text = text; front = seen; more = []; is = sym (append-nil seen); ended = ended; wrote = wrote };
  })

  -- a link that wasn't visited
  pub keeps-none : (seen later : List Entry) (reply : PendingReply K) → BeginsWith later seen → KeepsReply see seen later reply reply
  keeps-none seen later reply begins first is = reply-so-later seen later first reply begins is

  -- one that was, and was open
  pub keeps-visit : (seen later : List Entry) (old new : PendingReply K) → old.written ≡ false → IsReplySoFar see later old new → KeepsReply see seen later old new
  keeps-visit seen later old new fresh so first (inl is) =
      let P : PendingReply K → Type 0 = λ reply. IsReplySoFar see later reply new in subst P is so
  keeps-visit seen later old new fresh so first (inr was) = let no : false ≡ true = sym fresh ∙ was.written_ in absurd cc

  pub keeps-then : (one two three : List Entry) (old mid new : List (PendingReply K)) → length mid ≡ length old
      → KeepReplies see one two old mid → KeepReplies see two three mid new → KeepReplies see one three old new
  keeps-then one two three old mid new same first second place none below reply is =
      second place none (subst (λ (n : ℕ). place < n) (sym same) below) reply (first place none below reply is)

  pub keep-all-none : (seen later : List Entry) (replies : List (PendingReply K)) → BeginsWith later seen → KeepReplies see seen later replies replies
  keep-all-none seen later replies begins place none below = keeps-none seen later (slice_index_or replies place none) begins

  -- the link at a place was visited
  pub keeps-at : (one two three : List Entry) (old mid : List (PendingReply K)) (at : ℕ) (new : PendingReply K) → at < length mid → length mid ≡ length old
      → BeginsWith three two → KeepReplies see one two old mid → (or : PendingReply K) → KeepsReply see two three (slice_index_or mid at or) new
      → KeepReplies see one three old (set mid at new)
  keeps-at one two three old mid at new within same begins first or one_more place none below reply is = by (cases_eq at place)
    where
      P : PendingReply K → Type 0
      P d = IsReplySoFar see three reply d

      by : (at ≡ place) ⊎ (at ≡ place → ⊥) → IsReplySoFar see three reply (slice_index_or (set mid at new) place none)
      by (inl equal) =
          let Q : PendingReply K → Type 0 = λ d. IsReplySoFar see two reply d in
          let here : slice_index_or mid place none ≡ slice_index_or mid at or =
          other-default mid place none or (subst (λ (n : ℕ). place < n) (sym same) below) ∙ ap (λ (k : ℕ). slice_index_or mid k or) (sym equal) in
          subst P (sym (get_or-set_at mid at place new none (sym equal) within))
          (one_more reply (subst Q here (first place none below reply is)))
      by (inr apart) =
          subst P (sym (get_or-set_other mid at place new none (λ e. apart (sym e))))
          (reply-so-later two three reply (slice_index_or mid place none) begins (first place none below reply is))

  -- all links of a worker, after its work
  pub keeps-are : (seen later : List Entry) (old new : List (PendingReply K)) → length new ≡ length old → KeepReplies see seen later old new → AreRepliesSoFar see later old new
  keeps-are seen later old new same keep = replies-each see later old new same (λ place none below. keep place none below (slice_index_or old place none) (inl refl))

-- ---- lists of queues, one queue after another

module _ {X : Type 0} (P : ℕ → X → X → Type 0) (xs : List X) (at : ℕ) (x : X) (within : at < length xs) (own : (none : X) → P at none x) where
  -- what holds of all below a place, and of the one there
  pub set-below : ((place : ℕ) (none : X) → place < at → P place none (slice_index_or xs place none))
      → (place : ℕ) (none : X) → place < at + 1 → P place none (slice_index_or (set xs at x) place none)
  set-below each place none below = by (cases_eq at place)
    where
      by : (at ≡ place) ⊎ (at ≡ place → ⊥) → P place none (slice_index_or (set xs at x) place none)
      by (inl same) =
          let N : ℕ → Type 0 = λ p. P p none x in
          let Q : X → Type 0 = λ y. P place none y in
          subst Q (sym (get_or-set_at xs at place x none (sym same) within)) (subst N same (own none))
      by (inr apart) =
          let Q : X → Type 0 = λ y. P place none y in
          subst Q (sym (get_or-set_other xs at place x none (λ e. apart (sym e)))) (each place none (omega (arith, below, apart)))

  -- of all, and of a new one
  pub set-all : ((place : ℕ) (none : X) → place < length xs → P place none (slice_index_or xs place none))
      → (place : ℕ) (none : X) → place < length (set xs at x) → P place none (slice_index_or (set xs at x) place none)
  set-all each place none below = by (cases_eq at place)
    where
      by : (at ≡ place) ⊎ (at ≡ place → ⊥) → P place none (slice_index_or (set xs at x) place none)
      by (inl same) =
          let N : ℕ → Type 0 = λ p. P p none x in
          let Q : X → Type 0 = λ y. P place none y in
          subst Q (sym (get_or-set_at xs at place x none (sym same) within)) (subst N same (own none))
      by (inr apart) =
          let Q : X → Type 0 = λ y. P place none y in
          subst Q (sym (get_or-set_other xs at place x none (λ e. apart (sym e)))) (each place none (omega (arith, below, length-set xs at x)))

-- an element after the one that was set
pub set-behind : {X : Type 0} → (xs : List X) (at : ℕ) (x : X) (place : ℕ) (none : X) → at < place
    → slice_index_or (set xs at x) place none ≡ slice_index_or xs place none
set-behind xs at x place none behind = get_or-set_other xs at place x none (λ e. let no : place ≡ at = e in absurd (omega (arith, no, behind)))

-- ---- seats

some-later : {L : Type 0} → (seen later : List Entry) → BeginsWith later seen → (other : Option (SeatState L))
    → IfSome other (λ o. BeginsWith seen o.seen) → IfSome other (λ o. BeginsWith later o.seen)
some-later seen later begins None is = tt
some-later seen later begins (Some o) is = begins-more o.seen seen later is begins

module _ {L K : Type 0} where
  pub joined-later : (seat later : SeatState L) (old new : WorkerQueue (SeatState L) K) → BeginsWith later.seen seat.seen → WasJoined seat old new → WasJoined later old new
  joined-later seat later old new begins was = record {
    seen_ = some-later seat.seen later.seen begins old.seat was.seen_;
    replies_ = was.replies_;
  }

  -- a worker did its work, its seat was joined, and the core went on
  pub worked-joined : (see : K → SeenLink) (shared : SharedState L) (entries : List Entry) (seat : SeatState L) (first seated worked joined : WorkerQueue (SeatState L) K)
      → seated.replies ≡ first.replies → HasWorked see shared seated worked → WasJoined seat worked joined → BeginsWith entries seat.seen
      → (let replies = first.replies in let replies' = joined.replies in AreRepliesSoFar see entries replies.items replies'.items)
  worked-joined see shared entries seat first seated worked joined same has was begins =
      let own = has.seat in
      let S : Option (SeatState L) → Type 0 = λ o. IfSome o (λ other. BeginsWith seat.seen other.seen) in
      let saw : BeginsWith seat.seen own.seen = subst S has.seat_ was.seen_ in
      let old = seated.replies in let mid = worked.replies in
      let are = replies-so-later see own.seen entries old.items mid.items (begins-more own.seen seat.seen entries saw begins) has.replies_ in
      let N : VecDeque (PendingReply K) Global → Type 0 = λ d. AreRepliesSoFar see entries old.items d.items in
      let replies' = joined.replies in
      let O : VecDeque (PendingReply K) Global → Type 0 = λ d. AreRepliesSoFar see entries d.items replies'.items in
      subst O same (subst N (sym was.replies_) are)

  -- a queue has its seat after the work, too
  pub has-worked : (see : K → SeenLink) (shared : SharedState L) (old new : WorkerQueue (SeatState L) K) → HasWorked see shared old new → HasSeat shared new
  has-worked see shared old new has = record { seat = has.seat; seat_ = has.seat_; shared_ = has.shared_ }
