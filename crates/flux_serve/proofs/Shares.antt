-- Links that are dealt to workers, and taken back.
use Rattle.std.proofs.Common.{◌≡◌, inl, inr, ℕ, zero, suc, ◌%◌, ◌<◌, Bool, if◌then◌else◌, List, [], ◌∷◌, ◌++◌, length, slice_index_or, refl, sym, ap, ◌∙◌, append_assoc, arith}
use Rattle.std.proofs.lemmas.Bool.{eq-eqb, ne_eqb}
use Rattle.flow_model.specs.declared.journals.Entry.{Entry}
use Rattle.flux_doors.specs.Seen.{SeenLink}
use Rattle.flux_batches.specs.declared.reading.ReadLink.{ReadLink}
use Rattle.flux_batches.specs.Replies.{flow_behind}
use Rattle.flux_serve.specs.declared.replies.PendingReply.{PendingReply}
use Rattle.flux_serve.specs.steps.PendingReplies.{IsReplySoFar, AreRepliesSoFar, to_answer, share}

-- ---- shares

module _ {K : Type 0} (workers flow : ℕ) (request : ReadLink K) (rest : List (ReadLink K)) where
  abbrev more : ℕ → List (PendingReply K)
  more worker = share workers worker (flow_behind flow request.sent) rest

  -- the first link is its worker's
  pub share-own : (worker : ℕ) → flow % workers ≡ worker → share workers worker flow (request ∷ rest) ≡ to_answer request flow ∷ more worker
  share-own worker own = ap (λ (b : Bool). (if b then to_answer request flow ∷ [] else []) ++ more worker) (eq-eqb (flow % workers) worker own)

  -- and no other one's
  pub share-other : (worker : ℕ) → (flow % workers ≡ worker → ⊥) → share workers worker flow (request ∷ rest) ≡ more worker
  share-other worker other = ap (λ (b : Bool). (if b then to_answer request flow ∷ [] else []) ++ more worker) (ne_eqb (flow % workers) worker other)

  -- dealt to its worker
  pub dealt-own : (worker : ℕ) (before after all : List (PendingReply K)) → flow % workers ≡ worker
      → before ++ share workers worker flow (request ∷ rest) ≡ all → after ≡ before ++ to_answer request flow ∷ []
      → after ++ more worker ≡ all
  dealt-own worker before after all own so_far is =
      ap (λ (l : List (PendingReply K)). l ++ more worker) is ∙ append_assoc before (to_answer request flow ∷ []) (more worker)
      ∙ ap (λ (l : List (PendingReply K)). before ++ l) (sym (share-own worker own)) ∙ so_far

  pub dealt-other : (worker : ℕ) (before all : List (PendingReply K)) → (flow % workers ≡ worker → ⊥)
      → before ++ share workers worker flow (request ∷ rest) ≡ all → before ++ more worker ≡ all
  dealt-other worker before all other so_far = ap (λ (l : List (PendingReply K)). before ++ l) (sym (share-other worker other)) ∙ so_far

-- ---- links, each at its place

module _ {K : Type 0} (see : K → SeenLink) where
  -- by places, and one after another
  pub replies-each : (entries : List Entry) (old new : List (PendingReply K)) → length new ≡ length old
      → ((place : ℕ) (none : PendingReply K) → place < length old → IsReplySoFar see entries (slice_index_or old place none) (slice_index_or new place none))
      → AreRepliesSoFar see entries old new
  replies-each entries [] [] same each = tt
  replies-each entries [] (n ∷ new) same each = absurd (omega (arith, same))
  replies-each entries (o ∷ old) [] same each = absurd (omega (arith, same))
  replies-each entries (o ∷ old) (n ∷ new) same each =
      (each zero o (omega arith), replies-each entries old new (omega (arith, same)) (λ place none below. each (suc place) none (omega (arith, below))))

  -- what was so stays so, where more was seen
  pub reply-later : (entries more : List Entry) (old new : PendingReply K) → IsReplySoFar see entries old new → IsReplySoFar see (entries ++ more) old new
  reply-later entries more old new (inl same) = inl same
  reply-later entries more old new (inr was) =
      let from = was.from in inr (record {
        sent_ = was.sent_;
        written_ = was.written_;
        same = was.same;
        from = record {
          text = from.text;
          front = from.front;
          more = from.more ++ more;
          is = ap (λ (l : List Entry). l ++ more) from.is ∙ append_assoc from.front from.more more;
          ended = from.ended;
          wrote = from.wrote;
        };
      })

  pub replies-later : (entries more : List Entry) (old new : List (PendingReply K)) → AreRepliesSoFar see entries old new → AreRepliesSoFar see (entries ++ more) old new
  replies-later entries more [] [] are = tt
  replies-later entries more [] (n ∷ new) are = absurd are
  replies-later entries more (o ∷ old) [] are = absurd are
  replies-later entries more (o ∷ old) (n ∷ new) are = (reply-later entries more o n are.0, replies-later entries more old new are.1)

  pub replies-same : (entries : List Entry) (replies : List (PendingReply K)) → AreRepliesSoFar see entries replies replies
  replies-same entries [] = tt
  replies-same entries (reply ∷ replies) = (inl refl, replies-same entries replies)
