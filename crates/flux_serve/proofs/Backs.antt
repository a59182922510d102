-- Links that were taken back: what was written is their flows' replies.
use Rattle.std.proofs.Common.{◌≡◌, inl, inr, ℕ, Bool, true, false, ◌||◌, MatchBool, List, [], ◌∷◌, ◌++◌, refl, sym, ap, subst, ◌∙◌}
use Rattle.std.specs.List.{list_any}
use Rattle.flow_model.specs.declared.journals.Entry.{Entry}
use Rattle.flow_model.specs.declared.journals.Event.{Event}
use Rattle.flow_model.specs.Setup.{Setup}
use Rattle.flow_model.specs.Events.{events_by}
use Rattle.flow_model.specs.Legal.{IsLegal}
use Rattle.flux_laws.specs.Growth.{is_end, has_ended}
use Rattle.flux_laws.proofs.OwnEvents.{events_by-append}
use Rattle.flux_outside.specs.Streams.{WroteOrBroke}
use Rattle.flux_doors.specs.Seen.{SeenLink, IsUnread}
use Rattle.flux_batches.specs.declared.reading.Sent.{Sent}
use Rattle.flux_batches.specs.declared.reading.Sent.TheVariants.{Text, Failed, Memory}
use Rattle.flux_batches.specs.declared.reading.ReadLink.{ReadLink}
use Rattle.flux_batches.specs.Replies.{reply_of, flow_behind, IsAnswered, AreAnswered}
use Rattle.flux_serve.specs.AtOnce.{IsAnsweredSoFar, AreAnsweredSoFar}
use Rattle.flux_serve.specs.declared.replies.PendingReply.{PendingReply}
use Rattle.flux_serve.specs.steps.PendingReplies.{HasText, IsFromFront, IsReplySoFar, IsBack, IsBackOf, AreBack}
use Rattle.flux_serve.proofs.EndedReplies.{reply-stays}

-- ---- one link

-- an `end` in a front is there in all entries
any-left : (test : Event → Bool) (xs ys : List Event) → list_any test xs ≡ true → list_any test (xs ++ ys) ≡ true
any-left test [] ys any = absurd cc
any-left test (x ∷ xs) ys any = by (test x) any (any-left test xs ys)
  where
    by : (b : Bool) → (b || list_any test xs) ≡ true → (list_any test xs ≡ true → list_any test (xs ++ ys) ≡ true) → (b || list_any test (xs ++ ys)) ≡ true
    by true any more = refl
    by false any more = more any

ended-more : (entries more : List Entry) (flow : ℕ) → has_ended entries flow ≡ true → has_ended (entries ++ more) flow ≡ true
ended-more entries more flow ended =
    ap (list_any is_end) (events_by-append flow entries more) ∙ any-left is_end (events_by flow entries) (events_by flow more) ended

module _ (setup : Setup) (entries : List Entry) (legal : IsLegal setup entries) (flow : ℕ) (before after : SeenLink) where
  wrote-all : (sent : Sent) → IsFromFront entries flow before after sent → WroteOrBroke before.stream after.stream (reply_of flow entries)
  wrote-all sent from =
      let same : reply_of flow entries ≡ reply_of flow from.front =
      ap (reply_of flow) from.is ∙ reply-stays setup from.front from.more (subst (IsLegal setup) from.is legal) flow from.ended in
      subst (WroteOrBroke before.stream after.stream) (sym same) from.wrote

  from-answered : (sent : Sent) → IsFromFront entries flow before after sent → IsAnswered entries flow before after sent
  from-answered (Text text) from = wrote-all (Text text) from
  from-answered Failed from = absurd from.text
  from-answered Memory from = absurd from.text

  from-so-far : (sent : Sent) → IsFromFront entries flow before after sent → IsAnsweredSoFar entries flow before after sent
  from-so-far (Text text) from =
      inr (ap (λ (e : List Entry). has_ended e flow) from.is ∙ ended-more from.front from.more flow from.ended, wrote-all (Text text) from)
  from-so-far Failed from = absurd from.text
  from-so-far Memory from = absurd from.text

  none-so-far : (sent : Sent) → after.stream ≡ before.stream → IsAnsweredSoFar entries flow before after sent
  none-so-far (Text text) same = inl same
  none-so-far Failed same = same
  none-so-far Memory same = same

  back-one : (sent : Sent) → IsBack true entries flow before after sent → IsAnswered entries flow before after sent
  back-one sent (inl answered) = answered
  back-one sent (inr from) = from-answered sent from

  back-one-so-far : (sent : Sent) → IsBack false entries flow before after sent → IsAnsweredSoFar entries flow before after sent
  back-one-so-far sent (inl same) = none-so-far sent same
  back-one-so-far sent (inr from) = from-so-far sent from

-- ---- all links

module _ {K : Type 0} (see : K → SeenLink) (setup : Setup) (entries : List Entry) (legal : IsLegal setup entries) where
  -- of a batch that was driven whole
  pub back-answered : (flow : ℕ) (requests : List (ReadLink K)) (backs : List K) (next : ℕ)
      → AreBack see true entries flow requests backs [] next → AreAnswered see entries flow requests backs []
  back-answered flow requests [] next back = back.0
  back-answered flow [] (link ∷ backs) next back = absurd back
  back-answered flow (request ∷ rest) (link ∷ backs) next back = (
    back.0,
    back-one setup entries legal flow (see request.link) (see link) request.sent back.1,
    back-answered (flow_behind flow request.sent) rest backs next back.2,
  )

  -- and of any other
  pub back-so-far : (flow : ℕ) (requests : List (ReadLink K)) (backs : List K) (next : ℕ)
      → AreBack see false entries flow requests backs [] next → AreAnsweredSoFar see entries flow requests backs
  back-so-far flow requests [] next back =
      let P : List (ReadLink K) → Type 0 = λ them. AreAnsweredSoFar see entries flow them [] in subst P (sym back.0) tt
  back-so-far flow [] (link ∷ backs) next back = absurd back
  back-so-far flow (request ∷ rest) (link ∷ backs) next back = (
    back.0,
    back-one-so-far setup entries legal flow (see request.link) (see link) request.sent back.1,
    back-so-far (flow_behind flow request.sent) rest backs next back.2,
  )

-- one link more
pub back-more : {K : Type 0} → (see : K → SeenLink) (whole : Bool) (entries : List Entry) (flow : ℕ) (requests : List (ReadLink K)) (backs : List K)
    (request : ReadLink K) (rest : List (ReadLink K)) (next : ℕ) (link : K)
    → AreBack see whole entries flow requests backs (request ∷ rest) next → IsUnread (see request.link) (see link)
    → IsBack whole entries next (see request.link) (see link) request.sent
    → AreBack see whole entries flow requests (backs ++ link ∷ []) rest (flow_behind next request.sent)
back-more {K} see whole entries flow requests [] request rest next link back same is =
    let H : List (ReadLink K) → Type 0 = λ them. AreBack see whole entries flow them (link ∷ []) rest (flow_behind next request.sent) in
    let F : ℕ → Type 0 = λ f. AreBack see whole entries f (request ∷ rest) (link ∷ []) rest (flow_behind next request.sent) in
    subst H (sym back.0) (subst F (sym back.1) (same, is, (refl, refl)))
back-more see whole entries flow [] (first ∷ backs) request rest next link back same is = absurd back
back-more see whole entries flow (one ∷ requests) (first ∷ backs) request rest next link back same is =
    (back.0, back.1, back-more see whole entries (flow_behind flow one.sent) requests backs request rest next link back.2 same is)

-- ---- a link that is answered when it is taken back, if it has to be

module _ {K : Type 0} (see : K → SeenLink) (entries : List Entry) where
  -- one that sent nothing is as it was
  silent-same : (link : SeenLink) (flow : ℕ) (sent : Sent) → (HasText sent → ⊥) → IsAnswered entries flow link link sent
  silent-same link flow (Text text) silent = absurd (silent tt)
  silent-same link flow Failed silent = refl
  silent-same link flow Memory silent = refl

  text-answered : (before after : SeenLink) (flow : ℕ) (sent : Sent) → HasText sent
      → WroteOrBroke before.stream after.stream (reply_of flow entries) → IsAnswered entries flow before after sent
  text-answered before after flow (Text text) has wrote = wrote
  text-answered before after flow Failed has wrote = absurd has
  text-answered before after flow Memory has wrote = absurd has

  -- it wasn't
  pub answered-stood : (whole : Bool) (before old : PendingReply K) → before.written ≡ false → IsReplySoFar see entries before old
      → (whole ≡ true → (let request = old.request in HasText request.sent) → old.written ≡ true)
      → (let request = old.request in IsBackOf see whole entries before request.link)
  answered-stood whole before old fresh (inr was) over = (was.same, inr was.from)
  answered-stood whole before old fresh (inl same) over =
      let P : PendingReply K → Type 0 = λ reply. ((whole ≡ true → (let request = reply.request in HasText request.sent) → reply.written ≡ true)
      → (let request = reply.request in IsBackOf see whole entries before request.link)) in
      subst P (sym same) (λ over'. ((refl, refl, refl), inl (by whole over'))) over
    where
      request : ReadLink K
      request = before.request

      by : (b : Bool) → (b ≡ true → HasText request.sent → before.written ≡ true)
          → (let flow = before.flow in MatchBool b (IsAnswered entries flow.0 (see request.link) (see request.link) request.sent)
          ((see request.link).stream ≡ (see request.link).stream))
      by false over' = refl
      by true over' = let flow = before.flow in
          silent-same (see request.link) flow.0 request.sent (λ has. let is : false ≡ true = sym fresh ∙ over' refl has in absurd cc)

  -- it was
  pub answered-now : (before old : PendingReply K) (link : K) → before.written ≡ false → IsReplySoFar see entries before old
      → (let request = old.request in HasText request.sent) → old.written ≡ false
      → (let request = old.request in IsUnread (see request.link) (see link))
      → (let request = old.request in let flow = old.flow in WroteOrBroke (see request.link).stream (see link).stream (reply_of flow.0 entries))
      → IsBackOf see true entries before link
  answered-now before old link fresh (inr was) has unwritten same wrote =
      let is : false ≡ true = sym unwritten ∙ was.written_ in absurd cc
  answered-now before old link fresh (inl is) has unwritten same wrote =
      let P : PendingReply K → Type 0 = λ reply. (let request = reply.request in HasText request.sent)
      → (let request = reply.request in IsUnread (see request.link) (see link))
      → (let request = reply.request in let flow = reply.flow in WroteOrBroke (see request.link).stream (see link).stream (reply_of flow.0 entries))
      → IsBackOf see true entries before link in
      subst P (sym is) (λ has' same' wrote'. let request = before.request in let flow = before.flow in
      (same', inl (text-answered (see request.link) (see link) flow.0 request.sent has' wrote'))) has same wrote
