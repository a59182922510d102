-- Serving at once: each reply is written as soon as its flow has its `end`, while other flows still
-- run.
use Rattle.std.specs.Prelude.{◌≡◌, ℕ, ◌<◌, ◌≤◌, ◌⊎◌, true, List, [], ◌∷◌, length}
use Rattle.flow_model.specs.declared.journals.Entry.{Entry}
use Rattle.flow_model.specs.Keys.{Cells}
use Rattle.flow_model.specs.Legal.{IsLegal, IsWhole}
use Rattle.flux_laws.specs.Growth.{has_ended}
use Rattle.flux_outside.specs.Streams.{WroteOrBroke}
use Rattle.flux_doors.specs.Seen.{SeenLink, IsUnread, TakesBack}
use Rattle.flux_batches.specs.declared.reading.Sent.{Sent}
use Rattle.flux_batches.specs.declared.reading.Sent.TheVariants.{Text, Failed}
use Rattle.flux_batches.specs.declared.reading.Sent.TheVariants as sents
use Rattle.flux_batches.specs.declared.reading.ReadLink.{ReadLink}
use Rattle.flux_batches.specs.Links.{WereRead, AreRead}
use Rattle.flux_batches.specs.Replies.{reply_of, flow_behind}
use Rattle.flux_batches.specs.Gathered.{AreGathered}
use Rattle.flux_serve.specs.declared.batches.ServeEnd.{ServeEnd}
use Rattle.flux_serve.specs.declared.batches.ServeEnd.TheVariants.{Memory}
use Rattle.flux_serve.specs.Batches.{Service, Batch, batch_items, batch_setup, empty_cells}
use Rattle.flux_serve.specs.Ends.{Sight, AreServed, cells_at_end, number_at_end, HasServed}

-- ---- a batch that is broken off

-- a link with an item was written nothing; or its flow has its `end`, and it was written that
-- flow's reply, or a front of it where its count rose; every other link was written nothing
abbrev pub IsAnsweredSoFar : List Entry → ℕ → SeenLink → SeenLink → Sent → Type 0
IsAnsweredSoFar entries flow before after (Text text) =
    (after.stream ≡ before.stream)
    ⊎ ((has_ended entries flow ≡ true)
    × WroteOrBroke before.stream after.stream (reply_of flow entries))
IsAnsweredSoFar entries flow before after Failed = after.stream ≡ before.stream
IsAnsweredSoFar entries flow before after sents.Memory = after.stream ≡ before.stream

-- links were answered so far, from a flow on, and given back as these, each at its place
abbrev pub AreAnsweredSoFar : {K : Type 0} → (K → SeenLink) → List Entry → ℕ → List (ReadLink K)
    → List K → Type 0
AreAnsweredSoFar see entries flow [] [] = Unit {0}
AreAnsweredSoFar see entries flow [] (back ∷ backs) = ⊥
AreAnsweredSoFar see entries flow (request ∷ rest) [] = ⊥
AreAnsweredSoFar see entries flow (request ∷ rest) (back ∷ backs) =
    IsUnread (see request.link) (see back)
    × IsAnsweredSoFar entries flow (see request.link) (see back) request.sent
    × AreAnsweredSoFar see entries (flow_behind flow request.sent) rest backs

-- a batch that was broken off: its links are the first of the door's next batch, one to 64; they
-- were read, answered so far by one legal journal of its items, which isn't whole, and given back;
-- the log and the door's count are as before, and that of later accepts didn't fall
pub record IsBegun {L : Type 0} (see : L → SeenLink) (service : Service) (opening : Cells)
    (number : ℕ) (batch : Batch L) (before after : Sight L) : Type 0 where
  pub formed : AreGathered before.to_come after.to_come before.late after.late batch.came
  pub size : (0 < length batch.came) × (length batch.came ≤ 64)
  pub read : WereRead see service.framing batch.came batch.requests []
  pub each : AreRead batch.requests
  pub legal : let journal = batch.journal in
      IsLegal (batch_setup service opening (batch_items number batch)) journal.entries
  pub unfinished : let journal = batch.journal in
      IsWhole (batch_setup service opening (batch_items number batch)) journal.entries → ⊥
  pub replies : let journal = batch.journal in
      AreAnsweredSoFar see journal.entries 0 batch.requests batch.back
  pub back : TakesBack before.taken_back after.taken_back batch.back
  pub steady : after.faults ≡ before.faults
  pub later : before.late ≤ after.late
  pub log_ : after.log ≡ before.log

-- ---- the end

-- batches were served, and the next one, of those that were wanted, was begun and broken off
pub record HasBrokenOff {L : Type 0} (see : L → SeenLink) (service : Service) (wanted : ℕ)
    (before after : Sight L) : Type 0 where
  pub batches : List (Batch L)
  pub mid : Sight L
  pub served : AreServed see service empty_cells 0 0 before mid batches
  pub few : length batches < wanted
  pub begun : Batch L
  pub broken : IsBegun see service (cells_at_end service empty_cells 0 batches)
      (number_at_end 0 batches) begun mid after

-- serving at once: as in serving; or memory ran out while the flows of a batch ran
abbrev pub HasServedAtOnce : {L : Type 0} → (L → SeenLink) → Service → ℕ → Sight L → Sight L
    → ServeEnd → Type 0
HasServedAtOnce see service wanted before after end =
    HasServed see service wanted before after end
    ⊎ ((end ≡ Memory) × HasBrokenOff see service wanted before after)
