-- What serving at once has done: by what is seen of the links, and when counts of failures rose.
use Rattle.std.proofs.Common.{◌≡◌, inl, inr, ℕ, List, [], ◌∷◌, map, sym, ap, ◌∙◌, subst}
use Rattle.std.proofs.lemmas.List.{length-map}
use Rattle.flux_model.specs.declared.items.Item.{Item}
use Rattle.flow_model.specs.declared.journals.Entry.{Entry}
use Rattle.flow_model.specs.Keys.{Cells}
use Rattle.flow_model.specs.Legal.{IsLegal, IsWhole}
use Rattle.flux_outside.specs.Causes.{Rose}
use Rattle.flux_outside.specs.Streams.{Stream}
use Rattle.flux_doors.specs.Seen.{SeenLink}
use Rattle.flux_batches.specs.declared.reading.ReadLink.{ReadLink}
use Rattle.flux_batches.specs.Replies.{flow_behind}
use Rattle.flux_serve.specs.declared.batches.ServeEnd.{ServeEnd}
use Rattle.flux_serve.specs.declared.batches.ServeEnd.TheVariants.{Door, Log}
use Rattle.flux_serve.specs.Batches.{Service, Batch, batch_setup, empty_cells}
use Rattle.flux_serve.specs.Ends.{Sight, cells_at_end, number_at_end}
use Rattle.flux_serve.specs.AtOnce.{AreAnsweredSoFar, IsBegun, HasBrokenOff, HasServedAtOnce}
use Rattle.flux_serve.proofs.AsSeen.{as_seen, itself, request_seen, batch_seen, gathered_seen, taken_seen, read_seen, each_seen, items_seen, served_seen, cells_end, number_end, served_as_seen}
use Rattle.flux_serve.proofs.Counted.{log_faults, door_steady, log_steady, door_rose, door_same, log_rose, log_same}

module _ {L : Type 0} (see : L → SeenLink) where
  so_far_seen : (entries : List Entry) (flow : ℕ) (requests : List (ReadLink L)) (backs : List L) → AreAnsweredSoFar see entries flow requests backs
      → AreAnsweredSoFar itself entries flow (map (request_seen see) requests) (map see backs)
  so_far_seen entries flow [] [] a = tt
  so_far_seen entries flow [] (back ∷ backs) a = absurd a
  so_far_seen entries flow (request ∷ requests) [] a = absurd a
  so_far_seen entries flow (request ∷ requests) (back ∷ backs) a = (a.0, a.1, so_far_seen entries (flow_behind flow request.sent) requests backs a.2)

  begun_seen : (service : Service) (opening : Cells) (number : ℕ) (batch : Batch L) (before after : Sight L)
      → IsBegun see service opening number batch before after
      → IsBegun itself service opening number (batch_seen see batch) (as_seen see before) (as_seen see after)
  begun_seen service opening number batch before after b =
      let journal = batch.journal in
      let Q : List Item → Type 0 = λ its. IsLegal (batch_setup service opening its) journal.entries in
      let U : List Item → Type 0 = λ its. IsWhole (batch_setup service opening its) journal.entries → ⊥ in
      record {
        formed = gathered_seen see before.to_come after.to_come before.late after.late batch.came b.formed;
        size = (rw (length-map batch.came see) b.size.0, rw (length-map batch.came see) b.size.1);
        read = read_seen see service.framing batch.came batch.requests b.read;
        each = each_seen see batch.requests b.each;
        legal = subst Q (sym (items_seen see number batch.requests)) b.legal;
        unfinished = subst U (sym (items_seen see number batch.requests)) b.unfinished;
        replies = so_far_seen journal.entries 0 batch.requests batch.back b.replies;
        back = taken_seen see before.taken_back after.taken_back batch.back b.back;
        steady = b.steady;
        later = b.later;
        log_ = b.log_;
      }

  broken_seen : (service : Service) (wanted : ℕ) (before after : Sight L) → HasBrokenOff see service wanted before after
      → HasBrokenOff itself service wanted (as_seen see before) (as_seen see after)
  broken_seen service wanted before after b =
      let batches = b.batches in
      let own = begun_seen service (cells_at_end service empty_cells 0 batches) (number_at_end 0 batches) b.begun b.mid after b.broken in
      let C : Cells → Type 0 = λ cells. IsBegun itself service cells (number_at_end 0 batches) (batch_seen see b.begun) (as_seen see b.mid) (as_seen see after) in
      let N : ℕ → Type 0 = λ n. IsBegun itself service (cells_at_end service empty_cells 0 (map (batch_seen see) batches)) n (batch_seen see b.begun) (as_seen see b.mid) (as_seen see after) in
      record {
        batches = map (batch_seen see) batches;
        mid = as_seen see b.mid;
        served = served_seen see service empty_cells 0 0 before b.mid batches b.served;
        few = rw (length-map batches (batch_seen see)) b.few;
        begun = batch_seen see b.begun;
        broken = subst N (sym (number_end see 0 batches)) (subst C (sym (cells_end see service empty_cells 0 batches)) own);
      }

  -- what serving at once has done is so of what is seen of the links
  pub at_once_seen : (service : Service) (wanted : ℕ) (before after : Sight L) (end : ServeEnd) → HasServedAtOnce see service wanted before after end
      → HasServedAtOnce itself service wanted (as_seen see before) (as_seen see after) end
  at_once_seen service wanted before after end (inl served) = inl (served_as_seen see service wanted before after end served)
  at_once_seen service wanted before after end (inr broken) = inr (broken.0, broken_seen service wanted before after broken.1)

module _ {L : Type 0} (see : L → SeenLink) (service : Service) (wanted : ℕ) (before after : Sight L) where
  broken_door : HasBrokenOff see service wanted before after → after.faults ≡ before.faults
  broken_door b = let broken = b.broken in broken.steady ∙ door_steady see service empty_cells 0 0 before b.mid b.batches b.served

  broken_log : HasBrokenOff see service wanted before after → log_faults after ≡ log_faults before
  broken_log b = let broken = b.broken in ap (λ (log : Stream). log.faults) broken.log_ ∙ log_steady see service empty_cells 0 0 before b.mid b.batches b.served

  -- where serving at once ended with the door, its count rose, and else it didn't
  pub at_once_door_rose : HasServedAtOnce see service wanted before after Door → Rose before.faults after.faults
  at_once_door_rose (inl served) = door_rose see service wanted before after served
  at_once_door_rose (inr broken) = let is = broken.0 in absurd cc

  pub at_once_door_same : (end : ServeEnd) → (end ≡ Door → ⊥) → HasServedAtOnce see service wanted before after end → after.faults ≡ before.faults
  at_once_door_same end other (inl served) = door_same see service wanted before after end other served
  at_once_door_same end other (inr broken) = broken_door broken.1

  -- and so with the log
  pub at_once_log_rose : HasServedAtOnce see service wanted before after Log → Rose (log_faults before) (log_faults after)
  at_once_log_rose (inl served) = log_rose see service wanted before after served
  at_once_log_rose (inr broken) = let is = broken.0 in absurd cc

  pub at_once_log_same : (end : ServeEnd) → (end ≡ Log → ⊥) → HasServedAtOnce see service wanted before after end → log_faults after ≡ log_faults before
  at_once_log_same end other (inl served) = log_same see service wanted before after end other served
  at_once_log_same end other (inr broken) = broken_log broken.1
