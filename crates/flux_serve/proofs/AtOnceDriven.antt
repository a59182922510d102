-- A batch that was served at once: driven whole, or only begun.
use Rattle.std.proofs.Common.{◌≡◌, ℕ, zero, suc, ◌<◌, ◌≤◌, Bool, true, false, cond, List, [], length, Option, sym, ap, subst, refl, inl, inr, arith}
use Rattle.std.specs.Prelude.{Result, Ok, Err, IfErr}
use Rattle.flux_model.specs.declared.items.Item.{Item}
use Rattle.flow_model.specs.declared.journals.Entry.{Entry}
use Rattle.flow_model.specs.declared.journals.Journal.{Journal}
use Rattle.flow_model.specs.Keys.{Cells}
use Rattle.flow_model.specs.Setup.{Setup}
use Rattle.flow_model.specs.Legal.{IsLegal, IsWhole}
use Rattle.flux_laws.specs.Growth.{has_ended}
use Rattle.flow_state.proofs.Ended.{one_live, live_in, whole-has_ended}
use Rattle.flux_cells.specs.Kept.{Kept}
use Rattle.flux_doors.specs.Seen.{SeenLink, TakesBack}
use Rattle.flux_batches.specs.declared.reading.ReadLink.{ReadLink}
use Rattle.flux_batches.specs.Links.{AreRead, items_from}
use Rattle.flux_batches.specs.Replies.{AreAllAnswered}
use Rattle.flux_batches.specs.Gathered.{AreGathered}
use Rattle.flux_serve.specs.declared.batches.Run.{Run}
use Rattle.flux_serve.specs.declared.batches.ServeEnd.{ServeEnd}
use Rattle.flux_serve.specs.Batches.{Service, Batch, batch_setup}
use Rattle.flux_serve.specs.Ends.{Sight, HasStopped}
use Rattle.flux_serve.specs.AtOnce.{IsBegun}
use Rattle.flux_serve.specs.steps.Batches.{IsTaken, IsNone, IsNoneAtOnce, StopsAtOnce}
use Rattle.flux_serve.specs.steps.PendingReplies.{AreBack}
use Rattle.flux_serve.proofs.Driven.{stopped_none}
use Rattle.flux_serve.proofs.Backs.{back-answered, back-so-far}

-- links that were taken back
abbrev pub TakenBack : {L : Type 0} → (L → SeenLink) → Bool → List Entry → List (ReadLink L) → Option (List L) → Option (List L) → Type 0
TakenBack {L} see whole entries requests before after =
    (backs : List L) × (next : ℕ) × TakesBack before after backs × AreBack see whole entries 0 requests backs [] next

-- those of a batch that was driven whole were answered
pub all-answered : {L : Type 0} → (see : L → SeenLink) (setup : Setup) (entries : List Entry) → IsLegal setup entries → (requests : List (ReadLink L))
    (before after : Option (List L)) (whole : Bool) → whole ≡ true → TakenBack see whole entries requests before after
    → AreAllAnswered see entries requests before after
all-answered see setup entries legal requests before after true is back = record {
  backs = back.0;
  taken = back.2;
  answered = back-answered see setup entries legal 0 requests back.0 back.1 back.3;
}
all-answered see setup entries legal requests before after false is back = absurd cc

-- what is known of a batch that was begun
pub record Begun {L : Type 0} (see : L → SeenLink) (service : Service) (opening : Cells) (number : ℕ) (before after : Sight L) (requests : List (ReadLink L)) (items : List Item) (journal : Journal) : Type 0 where
  pub to_come : Option (List (List L))
  pub taken_back : Option (List L)
  pub late : ℕ
  pub taken : IsTaken see service.framing before.to_come to_come before.late late requests
  pub back : taken_back ≡ before.taken_back
  pub each : AreRead requests
  pub is : items ≡ items_from number requests
  pub legal : IsLegal (batch_setup service opening items) journal.entries
  pub unfinished : IsWhole (batch_setup service opening items) journal.entries → ⊥
  pub returned : TakenBack see false journal.entries requests taken_back after.taken_back
  pub come : after.to_come ≡ to_come
  pub late_ : after.late ≡ late
  pub later : before.late ≤ after.late
  pub steady : after.faults ≡ before.faults
  pub log_ : after.log ≡ before.log

pub begun-of : {L : Type 0} → (see : L → SeenLink) (service : Service) (opening : Cells) (number : ℕ) (before after : Sight L) (requests : List (ReadLink L)) (items : List Item) (journal : Journal)
    → Begun see service opening number before after requests items journal
    → (begun : Batch L) × IsBegun see service opening number begun before after
begun-of {L} see service opening number before after requests items journal b =
    let t = b.taken in
    let Q : List Item → Type 0 = λ i. IsLegal (batch_setup service opening i) journal.entries in
    let U : List Item → Type 0 = λ i. IsWhole (batch_setup service opening i) journal.entries → ⊥ in
    let T : Option (List L) → Type 0 = λ o. TakesBack o after.taken_back b.returned.0 in
    let C : Option (List (List L)) → Type 0 = λ c. AreGathered before.to_come c before.late after.late t.came in
    let D : ℕ → Type 0 = λ n. AreGathered before.to_come b.to_come before.late n t.came in (
      record { came = t.came; requests = requests; back = b.returned.0; journal = journal },
      record {
        formed = subst C (sym b.come) (subst D (sym b.late_) t.formed);
        size = t.size;
        read = t.read;
        each = b.each;
        legal = subst Q b.is b.legal;
        unfinished = subst U b.is b.unfinished;
        replies = back-so-far see (batch_setup service opening items) journal.entries b.legal 0 requests b.returned.0 b.returned.1 b.returned.3;
        back = subst T b.back b.returned.2;
        steady = b.steady;
        later = b.later;
        log_ = b.log_;
      },
    )

-- ---- a journal that isn't whole

-- where each flow has its `end`, none is live
none-live : (entries : List Entry) (count : ℕ) → ((flow : ℕ) → flow < count → has_ended entries flow ≡ true) → live_in entries count ≡ 0
none-live entries zero ended = refl
none-live entries (suc count) ended =
    let before = none-live entries count (λ flow below. ended flow (omega (arith, below))) in
    let last : one_live entries count ≡ 0 = ap (λ (b : Bool). cond b 0 1) (ended count (omega arith)) in
    omega (arith, before, last)

-- in a whole journal no flow is live
pub whole-none-live : (setup : Setup) (entries : List Entry) → IsWhole setup entries → live_in entries (length setup.items) ≡ 0
whole-none-live setup entries whole = none-live entries (length setup.items) (λ flow below. whole-has_ended setup entries flow (whole flow below))

-- ---- how it ended

module _ {L : Type 0} (see : L → SeenLink) (service : Service) (opening : Cells) (count number : ℕ) (before after : Sight L) where
  pub none_stops : (end : ServeEnd) → IsNoneAtOnce see service opening number before after end → StopsAtOnce see service opening count number before after end
  none_stops end (inl none) = inl (stopped_none see service opening count number before after end none)
  none_stops end (inr begun) = inr begun

  pub stops_if : (result : Result (Kept × ℕ) ServeEnd) → IfErr result (HasStopped see service opening count number before after)
      → IfErr result (StopsAtOnce see service opening count number before after)
  stops_if (Ok next) stopped = tt
  stops_if (Err end) stopped = inl stopped

-- no batch was driven, and so none was at once
pub none_at_once : {L : Type 0} → (see : L → SeenLink) (service : Service) (opening : Cells) (number : ℕ) (before after : Sight L)
    (result : Result Run ServeEnd) → IfErr result (IsNone see service.framing before after) → IfErr result (IsNoneAtOnce see service opening number before after)
none_at_once see service opening number before after (Ok run) none = tt
none_at_once see service opening number before after (Err end) none = inl none
