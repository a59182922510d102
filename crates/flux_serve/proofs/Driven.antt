-- A batch that was driven, and one that wasn't.
use Rattle.std.proofs.Common.{◌≡◌, ℕ, ◌+◌, ◌≤◌, List, length, map, Option, refl, sym, ap, subst, ◌∙◌, inl, inr}
use Rattle.std.specs.Prelude.{Result, Ok, Err, IfOk, IfErr, OnOk}
use Rattle.flux_model.specs.declared.items.Item.{Item}
use Rattle.flow_model.specs.declared.journals.Journal.{Journal}
use Rattle.flow_model.specs.Keys.{Cells}
use Rattle.flow_model.specs.CellsAfter.{cells_after}
use Rattle.flow_model.specs.Legal.{IsLegal, IsWhole}
use Rattle.flux_cells.specs.Kept.{Kept, cells_of}
use Rattle.flux_journal.specs.Logs.{printed_batch}
use Rattle.flux_outside.specs.Streams.{Stream, Wrote, Broke}
use Rattle.flux_doors.specs.declared.framing.Framing.{Framing}
use Rattle.flux_doors.specs.Seen.{SeenLink, TakesBack}
use Rattle.flux_batches.specs.declared.reading.ReadLink.{ReadLink}
use Rattle.flux_batches.specs.Links.{AreRead, items_from}
use Rattle.flux_batches.specs.Replies.{AreAllAnswered}
use Rattle.flux_batches.specs.Gathered.{AreGathered}
use Rattle.flux_serve.specs.declared.batches.Run.{Run}
use Rattle.flux_serve.specs.declared.batches.ServeEnd.{ServeEnd}
use Rattle.flux_serve.specs.declared.batches.ServeEnd.TheVariants.{Closed, Counted, Door, Log, Memory}
use Rattle.flux_serve.specs.Orders.{IsInOrder}
use Rattle.flux_serve.specs.Batches.{Service, batch_items, batch_setup}
use Rattle.flux_serve.specs.Ends.{Sight, IsUndriven, HasDriven, Stands, HasStopped}
use Rattle.flux_serve.specs.steps.Batches.{with_log, IsTaken, IsNone, HasFinished, HasRun, HasPassed}
use Rattle.flux_serve.proofs.Unwritten.{unwritten_request}

-- ---- driven

-- what is known of a batch after its replies
pub record Parts {L : Type 0} (see : L → SeenLink) (service : Service) (opening : Cells) (number : ℕ) (before after : Sight L) (requests : List (ReadLink L)) (run : Run) : Type 0 where
  pub to_come : Option (List (List L))
  pub taken_back : Option (List L)
  pub late : ℕ
  pub taken : IsTaken see service.framing before.to_come to_come before.late late requests
  pub back : taken_back ≡ before.taken_back
  pub each : AreRead requests
  pub is : run.items ≡ items_from number requests
  pub legal : let journal = run.journal in IsLegal (batch_setup service opening run.items) journal.entries
  pub whole : let journal = run.journal in IsWhole (batch_setup service opening run.items) journal.entries
  pub order : let journal = run.journal in IsInOrder service.order (batch_setup service opening run.items) journal.entries
  pub cells_ : let journal = run.journal in cells_of run.cells ≡ cells_after (batch_setup service opening run.items) journal.entries
  pub next_ : run.next ≡ number + length requests
  pub answered : let journal = run.journal in AreAllAnswered see journal.entries requests taken_back after.taken_back
  pub come : after.to_come ≡ to_come
  pub late_ : after.late ≡ late
  pub later : before.late ≤ after.late
  pub steady : after.faults ≡ before.faults
  pub log_ : after.log ≡ before.log

pub ran_of : {L : Type 0} (see : L → SeenLink) (service : Service) (opening : Cells) (number : ℕ) (before after : Sight L) (requests : List (ReadLink L)) (run : Run)
    → Parts see service opening number before after requests run → HasRun see service opening number before after run
ran_of {L} see service opening number before after requests run p =
    let t = p.taken in
    let a = p.answered in
    let journal = run.journal in
    let Q : List Item → Type 0 = λ i. IsLegal (batch_setup service opening i) journal.entries in
    let W : List Item → Type 0 = λ i. IsWhole (batch_setup service opening i) journal.entries in
    let O : List Item → Type 0 = λ i. IsInOrder service.order (batch_setup service opening i) journal.entries in
    let T : Option (List L) → Type 0 = λ b. TakesBack b after.taken_back a.backs in
    let C : Option (List (List L)) → Type 0 = λ c. AreGathered before.to_come c before.late after.late t.came in
    let D : ℕ → Type 0 = λ n. AreGathered before.to_come p.to_come before.late n t.came in
    record {
      batch = record { came = t.came; requests = requests; back = a.backs; journal = journal };
      driven = record {
        formed = subst C (sym p.come) (subst D (sym p.late_) t.formed);
        size = t.size;
        driven = record { read = t.read; each = p.each; legal = subst Q p.is p.legal; whole = subst W p.is p.whole; order = subst O p.is p.order; replies = a.answered };
        back = subst T p.back a.taken;
        steady = p.steady;
        later = p.later;
        gained = p.log_;
      };
      items_ = p.is;
      journal_ = refl;
      cells_ = p.cells_ ∙ ap (λ i. cells_after (batch_setup service opening i) journal.entries) p.is;
      next_ = p.next_;
    }

-- ---- not driven

-- links that were read went back
pub undriven_of : {L : Type 0} (see : L → SeenLink) (framing : Framing) (before after : Sight L) (come : Option (List (List L))) (back : Option (List L)) (late : ℕ) (requests : List (ReadLink L))
    → IsTaken see framing before.to_come come before.late late requests → back ≡ before.taken_back → TakesBack back after.taken_back (map (λ request. request.link) requests)
    → after.to_come ≡ come → after.late ≡ late → after.faults ≡ before.faults → before.late ≤ after.late → after.log ≡ before.log → IsUndriven see framing before after
undriven_of {L} see framing before after come back late requests t same taken come_ late_ steady later log_ =
    let backs = map (λ request. request.link) requests in
    let T : Option (List L) → Type 0 = λ b. TakesBack b after.taken_back backs in
    let C : Option (List (List L)) → Type 0 = λ c. AreGathered before.to_come c before.late after.late t.came in
    let D : ℕ → Type 0 = λ n. AreGathered before.to_come come before.late n t.came in
    record {
      came = t.came;
      backs = backs;
      formed = inl (subst C (sym come_) (subst D (sym late_) t.formed));
      size = t.size.1;
      back = subst T same taken;
      unwritten = unwritten_request see framing t.came requests t.read;
      steady = steady;
      later = later;
      log_ = log_;
    }

-- no batch was driven
pub stopped_none : {L : Type 0} (see : L → SeenLink) (service : Service) (opening : Cells) (count number : ℕ) (before after : Sight L) (end : ServeEnd) → IsNone see service.framing before after end → HasStopped see service opening count number before after end
stopped_none see service opening count number before after Closed n = n
stopped_none see service opening count number before after Counted n = absurd n
stopped_none see service opening count number before after Door n = n
stopped_none see service opening count number before after Log n = absurd n
stopped_none see service opening count number before after Memory n = inl n

-- ---- its text in the log

module _ {L : Type 0} (see : L → SeenLink) (service : Service) (opening : Cells) (count number : ℕ) (before mid : Sight L) (log : Stream) (run : Run)
    (ran : HasRun see service opening number before mid run) where
  logged : (Gained : Stream → Stream → List ℕ → Type 0) → Gained before.log log (printed_batch service.program count run.items run.journal)
      → HasDriven see service opening count number ran.batch before (with_log mid log) Gained
  logged Gained gained =
      let d = ran.driven in
      let I : List Item → Type 0 = λ i. Gained before.log log (printed_batch service.program count i run.journal) in
      let J : Journal → Type 0 = λ j. Gained before.log log (printed_batch service.program count (batch_items number ran.batch) j) in
      record { formed = d.formed; size = d.size; driven = d.driven; back = d.back; steady = d.steady; later = d.later; gained = subst J ran.journal_ (subst I ran.items_ gained) }

  -- it was written
  pub passed_if : (result : Result (Kept × ℕ) ServeEnd) → IfOk result (λ next. (next.0 ≡ run.cells) × (next.1 ≡ run.next))
      → OnOk result (Wrote before.log log (printed_batch service.program count run.items run.journal))
      → IfOk result (λ next. HasPassed see service opening count number before (with_log mid log) (cells_of next.0) next.1)
  passed_if (Ok next) left wrote = record {
    batch = ran.batch;
    driven = logged Wrote wrote;
    cells_ = ap cells_of left.0 ∙ ran.cells_;
    number_ = left.1 ∙ ran.next_;
  }
  passed_if (Err end) left wrote = tt

  stopped_of : (end : ServeEnd) → HasFinished end before.log log (printed_batch service.program count run.items run.journal)
      → HasStopped see service opening count number before (with_log mid log) end
  stopped_of Closed f = absurd f
  stopped_of Counted f = absurd f
  stopped_of Door f = absurd f
  stopped_of Log f = (ran.batch, logged Broke f)
  stopped_of Memory f = inr (ran.batch, logged Stands f)

  -- or it wasn't
  pub stopped_if : (result : Result (Kept × ℕ) ServeEnd)
      → IfErr result (λ end. HasFinished end before.log log (printed_batch service.program count run.items run.journal))
      → IfErr result (HasStopped see service opening count number before (with_log mid log))
  stopped_if (Ok next) f = tt
  stopped_if (Err end) f = stopped_of end f
