-- Links that are given back one after another.
use Rattle.std.proofs.Common.{◌≡◌, ℕ, zero, suc, ◌<◌, List, [], ◌∷◌, ◌++◌, length, map, slice_index_or, Option, Some, None, refl, sym, ap, ◌∙◌, append_assoc, subst, arith}
use Rattle.std.specs.Option.{option_map}
use Rattle.std.proofs.lemmas.List.{append-nil}
use Rattle.flow_model.specs.declared.journals.Entry.{Entry}
use Rattle.flux_batches.specs.declared.reading.ReadLink.{ReadLink}
use Rattle.flux_doors.specs.Seen.{SeenLink, TakesBack}
use Rattle.flux_batches.specs.Replies.{AreAnswered, flow_behind, AreAllAnswered}
use Rattle.flux_batches.specs.steps.Answering.{flow_at, WasAnswered}

pub back_none : {L : Type 0} → (before : Option (List L)) → TakesBack before before []
back_none None = refl
back_none (Some earlier) = ap (λ l. Some l) (sym (append-nil earlier))

pub back_more : {L : Type 0} → (before mid after : Option (List L)) (links : List L) (link : L) → TakesBack before mid links → TakesBack mid after (link ∷ []) → TakesBack before after (links ++ link ∷ [])
back_more {L} None mid after links link first second = second ∙ ap (option_map (λ (earlier : List L). earlier ++ link ∷ [])) first
back_more {L} (Some earlier) mid after links link first second =
    second ∙ ap (option_map (λ (h : List L). h ++ link ∷ [])) first ∙ ap (λ (l : List L). Some l) (append_assoc earlier links (link ∷ []))

-- some links were given back, and the rest is left
pub record Given {L : Type 0} (before after : Option (List L)) (links left : List L) : Type 0 where
  pub done : List L
  pub split : links ≡ done ++ left
  pub taken : TakesBack before after done

pub given_none : {L : Type 0} → (before : Option (List L)) (links : List L) → Given before before links links
given_none before links = record { done = []; split = refl; taken = back_none before }

pub given_more : {L : Type 0} → (before mid after : Option (List L)) (links left : List L) (link : L) → Given before mid links (link ∷ left) → TakesBack mid after (link ∷ []) → Given before after links left
given_more before mid after links left link g more = record {
  done = g.done ++ link ∷ [];
  split = g.split ∙ sym (append_assoc g.done (link ∷ []) left);
  taken = back_more before mid after g.done link g.taken more;
}

pub given_all : {L : Type 0} → (before after : Option (List L)) (links : List L) → Given before after links [] → TakesBack before after links
given_all {L} before after links g = let P : List L → Type 0 = TakesBack before after in subst P (sym (g.split ∙ append-nil g.done)) g.taken

-- ---- links that are answered

-- all were answered, each at its place by its flow
answered-each : {K : Type 0} → (see : K → SeenLink) (entries : List Entry) (flow : ℕ) (before after : List (ReadLink K))
    → length after ≡ length before
    → ((place : ℕ) (none : ReadLink K) → place < length before
    → WasAnswered see entries (flow_at flow before place) (slice_index_or before place none) (slice_index_or after place none))
    → AreAnswered see entries flow before (map (λ request. request.link) after) []
answered-each see entries flow [] [] same each = refl
answered-each see entries flow [] (request ∷ after) same each = absurd (omega (arith, same))
answered-each see entries flow (request ∷ before) [] same each = absurd (omega (arith, same))
answered-each see entries flow (request ∷ before) (back ∷ after) same each =
    let first = each zero request (omega arith) in (
      first.same,
      first.answered,
      answered-each see entries (flow_behind flow request.sent) before after (omega (arith, same))
          (λ place none below. each (suc place) none (omega (arith, below))),
    )

-- and given back
pub answered-all : {K : Type 0} → (see : K → SeenLink) (entries : List Entry) (flows : List ℕ) (requests before after listed : List (ReadLink K))
    (taken later : Option (List K)) → before ≡ requests → listed ≡ after → length after ≡ length before
    → ((place none : ℕ) → place < length before → slice_index_or flows place none ≡ flow_at 0 before place)
    → ((place : ℕ) (none : ReadLink K) → place < length before
    → WasAnswered see entries (slice_index_or flows place 0) (slice_index_or before place none) (slice_index_or after place none))
    → TakesBack taken later (map (λ request. request.link) listed)
    → AreAllAnswered see entries requests taken later
answered-all {K} see entries flows requests before after listed taken later is write same are each back =
    let All : List (ReadLink K) → Type 0 = λ them. AreAllAnswered see entries them taken later in
    let Back : List (ReadLink K) → Type 0 = λ them. TakesBack taken later (map (λ request. request.link) them) in
    subst All is (record {
      backs = map (λ request. request.link) after;
      taken = subst Back write back;
      answered = answered-each see entries 0 before after same (λ place none below.
          let P : ℕ → Type 0 = λ flow. WasAnswered see entries flow (slice_index_or before place none) (slice_index_or after place none) in
          subst P (are place 0 below) (each place none below));
    })
