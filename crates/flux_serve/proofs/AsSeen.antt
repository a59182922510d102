-- What serving has done, by what is seen of the links.
use Rattle.std.proofs.Common.{◌≡◌, ℕ, ◌+◌, List, [], ◌∷◌, ◌++◌, length, map, Option, Some, None, IfSome, refl, sym, ap, ◌∙◌, subst, inl, inr, ◌⊎◌}
use Rattle.std.specs.Option.{option_map}
use Rattle.std.proofs.lemmas.List.{map-append, length-map}
use Rattle.flux_model.specs.declared.items.Item.{Item}
use Rattle.flow_model.specs.declared.journals.Entry.{Entry}
use Rattle.flow_model.specs.Keys.{Cells}
use Rattle.flow_model.specs.CellsAfter.{cells_after}
use Rattle.flow_model.specs.Legal.{IsLegal, IsWhole}
use Rattle.flux_outside.specs.Streams.{Stream, Wrote, Broke}
use Rattle.flux_journal.specs.Logs.{printed_batch}
use Rattle.flux_doors.specs.Doors.{waiting, first_link}
use Rattle.flux_doors.specs.declared.framing.Framing.{Framing}
use Rattle.flux_doors.specs.Seen.{SeenLink, TakesBack}
use Rattle.flux_batches.specs.declared.reading.ReadLink.{ReadLink}
use Rattle.flux_batches.specs.Links.{WereRead, AreRead, item_sent, items_from}
use Rattle.flux_batches.specs.Replies.{AreAnswered, flow_behind}
use Rattle.flux_batches.specs.Gathered.{AreFirst, AreAll, AreGathered}
use Rattle.flux_serve.specs.declared.batches.ServeEnd.{ServeEnd}
use Rattle.flux_serve.specs.declared.batches.ServeEnd.TheVariants.{Closed, Counted, Door, Log, Memory}
use Rattle.flux_serve.specs.Orders.{IsInOrder}
use Rattle.flux_serve.specs.Batches.{Service, Batch, batch_setup, IsDriven, cells_behind, number_behind, empty_cells}
use Rattle.flux_serve.specs.Ends.{Sight, HasDriven, AreServed, cells_at_end, number_at_end, AreUnwritten, IsUndriven, Stands, HasStopped, HasEnded, HasServed}

-- a sight with links as what is seen of them
abbrev pub as_seen : {L : Type 0} → (L → SeenLink) → Sight L → Sight SeenLink
as_seen see sight = record {
  to_come = option_map (map (map see)) sight.to_come;
  taken_back = option_map (map see) sight.taken_back;
  faults = sight.faults;
  late = sight.late;
  log = sight.log;
}

-- links that are seen as they are
abbrev pub itself : SeenLink → SeenLink
itself link = link

module _ {L : Type 0} (see : L → SeenLink) where
  -- ---- batches at a door

  waiting_seen : (batches : List (List L)) → waiting (map (map see) batches) ≡ map (map see) (waiting batches)
  waiting_seen [] = refl
  waiting_seen ([] ∷ batches) = waiting_seen batches
  waiting_seen ((link ∷ links) ∷ batches) = refl

  none_seen : (batches : List (List L)) → first_link batches ≡ None → first_link (map (map see) batches) ≡ None
  none_seen [] none = refl
  none_seen ([] ∷ batches) none = refl
  none_seen ((link ∷ links) ∷ batches) none = absurd cc

  none_waits : (to_come : Option (List (List L))) → IfSome to_come (λ batches. first_link (waiting batches) ≡ None) → IfSome (option_map (map (map see)) to_come) (λ batches. first_link (waiting batches) ≡ None)
  none_waits None none = tt
  none_waits (Some batches) none = ap first_link (waiting_seen batches) ∙ none_seen (waiting batches) none

  first_seen : (before after : List (List L)) (links : List L) → AreFirst before after links → AreFirst (map (map see) before) (map (map see) after) (map see links)
  first_seen before after links first = record {
    left = map see first.left;
    others = map (map see) first.others;
    first = waiting_seen before ∙ (ap (map (map see)) first.first ∙ ap (λ (l : List SeenLink). l ∷ map (map see) first.others) (map-append see links first.left));
    behind = ap (map (map see)) first.behind;
  }

  all_seen : (after : List (List L)) (links : List L) → AreAll after links → AreAll (map (map see) after) (map see links)
  all_seen after links (inl all) = inl (map (map see) all.0, ap (map (map see)) all.1)
  all_seen after links (inr all) = inr (length-map links see ∙ all)

  pub gathered_seen : (before after : Option (List (List L))) (late late' : ℕ) (links : List L) → AreGathered before after late late' links → AreGathered (option_map (map (map see)) before) (option_map (map (map see)) after) late late' (map see links)
  gathered_seen None after late late' links g = tt
  gathered_seen (Some before) None late late' links g = absurd g
  gathered_seen (Some before) (Some after) late late' links g = (first_seen before after links g.0, λ steady. all_seen after links (g.1 steady))

  pub taken_seen : (before after : Option (List L)) (links : List L) → TakesBack before after links → TakesBack (option_map (map see) before) (option_map (map see) after) (map see links)
  taken_seen None after links taken = ap (option_map (map see)) taken
  taken_seen (Some before) after links taken = ap (option_map (map see)) taken ∙ ap Some (map-append see before links)

  unwritten_seen : (framing : Framing) (links backs : List L) → AreUnwritten see framing links backs → AreUnwritten itself framing (map see links) (map see backs)
  unwritten_seen framing [] [] un = tt
  unwritten_seen framing [] (back ∷ backs) un = absurd un
  unwritten_seen framing (link ∷ links) [] un = absurd un
  unwritten_seen framing (link ∷ links) (back ∷ backs) un = (un.0, un.1, un.2, unwritten_seen framing links backs un.3)

  -- ---- links that were read

  abbrev pub request_seen : ReadLink L → ReadLink SeenLink
  request_seen request = record { link = see request.link; sent = request.sent }

  pub read_seen : (framing : Framing) (links : List L) (requests : List (ReadLink L)) → WereRead see framing links requests [] → WereRead itself framing (map see links) (map request_seen requests) []
  read_seen framing links [] read = ap (map see) read
  read_seen framing [] (request ∷ requests) read = absurd read
  read_seen framing (link ∷ links) (request ∷ requests) read = (read.0, read.1, read_seen framing links requests read.2)

  pub each_seen : (requests : List (ReadLink L)) → AreRead requests → AreRead (map request_seen requests)
  each_seen [] each = tt
  each_seen (request ∷ requests) each = (each.0, each_seen requests each.1)

  pub items_seen : (number : ℕ) (requests : List (ReadLink L)) → items_from number (map request_seen requests) ≡ items_from number requests
  items_seen number [] = refl
  items_seen number (request ∷ requests) = ap (λ (l : List Item). item_sent number request.sent ++ l) (items_seen (number + 1) requests)

  answered_seen : (entries : List Entry) (flow : ℕ) (requests : List (ReadLink L)) (backs : List L) → AreAnswered see entries flow requests backs [] → AreAnswered itself entries flow (map request_seen requests) (map see backs) []
  answered_seen entries flow requests [] a = ap (map request_seen) a
  answered_seen entries flow [] (back ∷ backs) a = absurd a
  answered_seen entries flow (request ∷ requests) (back ∷ backs) a = (a.0, a.1, answered_seen entries (flow_behind flow request.sent) requests backs a.2)

  -- ---- a batch

  abbrev pub batch_seen : Batch L → Batch SeenLink
  batch_seen batch = record { came = map see batch.came; requests = map request_seen batch.requests; back = map see batch.back; journal = batch.journal }

  cells_seen : (service : Service) (opening : Cells) (number : ℕ) (batch : Batch L) → cells_behind service opening number (batch_seen batch) ≡ cells_behind service opening number batch
  cells_seen service opening number batch = let journal = batch.journal in ap (λ (its : List Item). cells_after (batch_setup service opening its) journal.entries) (items_seen number batch.requests)

  number_seen : (number : ℕ) (batch : Batch L) → number_behind number (batch_seen batch) ≡ number_behind number batch
  number_seen number batch = ap (λ (n : ℕ). number + n) (length-map batch.requests request_seen)

  driven_seen : (service : Service) (opening : Cells) (number : ℕ) (batch : Batch L) → IsDriven see service opening number batch → IsDriven itself service opening number (batch_seen batch)
  driven_seen service opening number batch d =
      let journal = batch.journal in
      let Q : List Item → Type 0 = λ its. IsLegal (batch_setup service opening its) journal.entries in
      let W : List Item → Type 0 = λ its. IsWhole (batch_setup service opening its) journal.entries in
      let O : List Item → Type 0 = λ its. IsInOrder service.order (batch_setup service opening its) journal.entries in
      record {
        read = read_seen service.framing batch.came batch.requests d.read;
        each = each_seen batch.requests d.each;
        legal = subst Q (sym (items_seen number batch.requests)) d.legal;
        whole = subst W (sym (items_seen number batch.requests)) d.whole;
        order = subst O (sym (items_seen number batch.requests)) d.order;
        replies = answered_seen journal.entries 0 batch.requests batch.back d.replies;
      }

  has_driven : (service : Service) (opening : Cells) (count number : ℕ) (batch : Batch L) (before after : Sight L) (Gained : Stream → Stream → List ℕ → Type 0) → HasDriven see service opening count number batch before after Gained
      → HasDriven itself service opening count number (batch_seen batch) (as_seen see before) (as_seen see after) Gained
  has_driven service opening count number batch before after Gained d =
      let G : List Item → Type 0 = λ its. Gained before.log after.log (printed_batch service.program count its batch.journal) in
      record {
        formed = gathered_seen before.to_come after.to_come before.late after.late batch.came d.formed;
        size = (rw (length-map batch.came see) d.size.0, rw (length-map batch.came see) d.size.1);
        driven = driven_seen service opening number batch d.driven;
        back = taken_seen before.taken_back after.taken_back batch.back d.back;
        steady = d.steady;
        later = d.later;
        gained = subst G (sym (items_seen number batch.requests)) d.gained;
      }

  -- ---- batches one after another

  pub served_seen : (service : Service) (opening : Cells) (count number : ℕ) (before after : Sight L) (batches : List (Batch L)) → AreServed see service opening count number before after batches
      → AreServed itself service opening count number (as_seen see before) (as_seen see after) (map batch_seen batches)
  served_seen service opening count number before after [] served = ap (as_seen see) served
  served_seen service opening count number before after (batch ∷ batches) served =
      let C : Cells → Type 0 = λ cells. AreServed itself service cells (count + 1) (number_behind number batch) (as_seen see served.0) (as_seen see after) (map batch_seen batches) in
      let N : ℕ → Type 0 = λ n. AreServed itself service (cells_behind service opening number (batch_seen batch)) (count + 1) n (as_seen see served.0) (as_seen see after) (map batch_seen batches) in (
        as_seen see served.0,
        has_driven service opening count number batch before served.0 Wrote served.1,
        subst N (sym (number_seen number batch)) (subst C (sym (cells_seen service opening number batch)) (served_seen service (cells_behind service opening number batch) (count + 1) (number_behind number batch) served.0 after batches served.2)),
      )

  pub cells_end : (service : Service) (opening : Cells) (number : ℕ) (batches : List (Batch L)) → cells_at_end service opening number (map batch_seen batches) ≡ cells_at_end service opening number batches
  cells_end service opening number [] = refl
  cells_end service opening number (batch ∷ batches) =
      ap (λ (cells : Cells). cells_at_end service cells (number_behind number (batch_seen batch)) (map batch_seen batches)) (cells_seen service opening number batch)
      ∙ (ap (λ (n : ℕ). cells_at_end service (cells_behind service opening number batch) n (map batch_seen batches)) (number_seen number batch)
      ∙ cells_end service (cells_behind service opening number batch) (number_behind number batch) batches)

  pub number_end : (number : ℕ) (batches : List (Batch L)) → number_at_end number (map batch_seen batches) ≡ number_at_end number batches
  number_end number [] = refl
  number_end number (batch ∷ batches) = ap (λ (n : ℕ). number_at_end n (map batch_seen batches)) (number_seen number batch) ∙ number_end (number_behind number batch) batches

  -- ---- the end

  formed_seen : (before after : Sight L) (came : List L) → AreGathered before.to_come after.to_come before.late after.late came ⊎ ((came ≡ []) × (after.to_come ≡ before.to_come) × (after.late ≡ before.late))
      → AreGathered (option_map (map (map see)) before.to_come) (option_map (map (map see)) after.to_come) before.late after.late (map see came)
      ⊎ ((map see came ≡ []) × (option_map (map (map see)) after.to_come ≡ option_map (map (map see)) before.to_come) × (after.late ≡ before.late))
  formed_seen before after came (inl formed) = inl (gathered_seen before.to_come after.to_come before.late after.late came formed)
  formed_seen before after came (inr none) = inr (ap (map see) none.0, ap (option_map (map (map see))) none.1, none.2)

  undriven_seen : (framing : Framing) (before after : Sight L) → IsUndriven see framing before after → IsUndriven itself framing (as_seen see before) (as_seen see after)
  undriven_seen framing before after u = record {
    came = map see u.came;
    backs = map see u.backs;
    formed = formed_seen before after u.came u.formed;
    size = rw (length-map u.came see) u.size;
    back = taken_seen before.taken_back after.taken_back u.backs u.back;
    unwritten = unwritten_seen framing u.came u.backs u.unwritten;
    steady = u.steady;
    later = u.later;
    log_ = u.log_;
  }

  stopped_seen : (service : Service) (opening : Cells) (count number : ℕ) (before after : Sight L) (end : ServeEnd) → HasStopped see service opening count number before after end
      → HasStopped itself service opening count number (as_seen see before) (as_seen see after) end
  stopped_seen service opening count number before after Closed s = (none_waits before.to_come s.0, ap (option_map (map see)) s.1, s.2, s.3, s.4)
  stopped_seen service opening count number before after Counted s = absurd s
  stopped_seen service opening count number before after Door s = (s.0, ap (option_map (map see)) s.1, s.2, ap (option_map (map (map see))) s.3, s.4)
  stopped_seen service opening count number before after Log s = (batch_seen s.0, has_driven service opening count number s.0 before after Broke s.1)
  stopped_seen service opening count number before after Memory (inl s) = inl (undriven_seen service.framing before after s)
  stopped_seen service opening count number before after Memory (inr s) = inr (batch_seen s.0, has_driven service opening count number s.0 before after Stands s.1)

  -- after the same batches
  stopped_there : (service : Service) (batches : List (Batch L)) (mid after : Sight L) (end : ServeEnd) → HasStopped see service (cells_at_end service empty_cells 0 batches) (length batches) (number_at_end 0 batches) mid after end
      → HasStopped itself service (cells_at_end service empty_cells 0 (map batch_seen batches)) (length (map batch_seen batches)) (number_at_end 0 (map batch_seen batches)) (as_seen see mid) (as_seen see after) end
  stopped_there service batches mid after end s =
      let own = stopped_seen service (cells_at_end service empty_cells 0 batches) (length batches) (number_at_end 0 batches) mid after end s in
      let C : Cells → Type 0 = λ cells. HasStopped itself service cells (length batches) (number_at_end 0 batches) (as_seen see mid) (as_seen see after) end in
      let K : ℕ → Type 0 = λ n. HasStopped itself service (cells_at_end service empty_cells 0 (map batch_seen batches)) n (number_at_end 0 batches) (as_seen see mid) (as_seen see after) end in
      let N : ℕ → Type 0 = λ n. HasStopped itself service (cells_at_end service empty_cells 0 (map batch_seen batches)) (length (map batch_seen batches)) n (as_seen see mid) (as_seen see after) end in
      subst N (sym (number_end 0 batches)) (subst K (sym (length-map batches batch_seen)) (subst C (sym (cells_end service empty_cells 0 batches)) own))

  ended_seen : (service : Service) (wanted : ℕ) (batches : List (Batch L)) (mid after : Sight L) (end : ServeEnd) → HasEnded see service wanted batches mid after end
      → HasEnded itself service wanted (map batch_seen batches) (as_seen see mid) (as_seen see after) end
  ended_seen service wanted batches mid after Counted e = (length-map batches batch_seen ∙ e.0, ap (as_seen see) e.1)
  ended_seen service wanted batches mid after Closed e = (rw (length-map batches batch_seen) e.0, stopped_there service batches mid after Closed e.1)
  ended_seen service wanted batches mid after Door e = (rw (length-map batches batch_seen) e.0, stopped_there service batches mid after Door e.1)
  ended_seen service wanted batches mid after Log e = (rw (length-map batches batch_seen) e.0, stopped_there service batches mid after Log e.1)
  ended_seen service wanted batches mid after Memory e = (rw (length-map batches batch_seen) e.0, stopped_there service batches mid after Memory e.1)

  -- what serving has done is so of what is seen of the links
  pub served_as_seen : (service : Service) (wanted : ℕ) (before after : Sight L) (end : ServeEnd) → HasServed see service wanted before after end → HasServed itself service wanted (as_seen see before) (as_seen see after) end
  served_as_seen service wanted before after end s = record {
    batches = map batch_seen s.batches;
    mid = as_seen see s.mid;
    served = served_seen service empty_cells 0 0 before s.mid s.batches s.served;
    ended = ended_seen service wanted s.batches s.mid after end s.ended;
  }
