-- When counts of failures rose in serving.
use Rattle.std.proofs.Common.{◌≡◌, ◌⊎◌, inl, inr, ℕ, ◌+◌, List, [], ◌∷◌, length, refl, ap, ◌∙◌, subst}
use Rattle.flow_model.specs.Keys.{Cells}
use Rattle.flux_outside.specs.Causes.{Rose}
use Rattle.flux_outside.specs.Streams.{Stream}
use Rattle.flux_doors.specs.Seen.{SeenLink}
use Rattle.flux_serve.specs.declared.batches.ServeEnd.{ServeEnd}
use Rattle.flux_serve.specs.declared.batches.ServeEnd.TheVariants.{Closed, Counted, Door, Log, Memory}
use Rattle.flux_serve.specs.Batches.{Service, Batch, cells_behind, number_behind, empty_cells}
use Rattle.flux_serve.specs.Ends.{Sight, HasDriven, AreServed, cells_at_end, number_at_end, IsUndriven, Stands, HasEnded, HasServed}

-- a log's count
abbrev pub log_faults : {L : Type 0} → Sight L → ℕ
log_faults sight = let log = sight.log in log.faults

module _ {L : Type 0} (see : L → SeenLink) (service : Service) where
  -- batches that were served leave both counts
  pub door_steady : (opening : Cells) (count number : ℕ) (before after : Sight L) (batches : List (Batch L)) → AreServed see service opening count number before after batches → after.faults ≡ before.faults
  door_steady opening count number before after [] served = ap (λ (s : Sight L). s.faults) served
  door_steady opening count number before after (batch ∷ batches) served =
      let driven = served.1 in
      door_steady (cells_behind service opening number batch) (count + 1) (number_behind number batch) served.0 after batches served.2 ∙ driven.steady

  pub log_steady : (opening : Cells) (count number : ℕ) (before after : Sight L) (batches : List (Batch L)) → AreServed see service opening count number before after batches → log_faults after ≡ log_faults before
  log_steady opening count number before after [] served = ap log_faults served
  log_steady opening count number before after (batch ∷ batches) served =
      let driven = served.1 in
      let wrote = driven.gained in
      log_steady (cells_behind service opening number batch) (count + 1) (number_behind number batch) served.0 after batches served.2 ∙ wrote.steady

  abbrev Served : ℕ → Sight L → Sight L → ServeEnd → Type 0
  Served wanted before after end = HasServed see service wanted before after end

  -- where serving ended with the door, its count rose
  pub door_rose : (wanted : ℕ) (before after : Sight L) → Served wanted before after Door → Rose before.faults after.faults
  door_rose wanted before after s =
      let mid = s.mid in
      subst (λ (n : ℕ). Rose n after.faults) (door_steady empty_cells 0 0 before mid s.batches s.served) s.ended.1.0

  -- and else it didn't
  pub door_same : (wanted : ℕ) (before after : Sight L) (end : ServeEnd) → (end ≡ Door → ⊥) → Served wanted before after end → after.faults ≡ before.faults
  door_same wanted before after end other s = one end other s.ended ∙ door_steady empty_cells 0 0 before s.mid s.batches s.served
    where
      one : (end : ServeEnd) → (end ≡ Door → ⊥) → HasEnded see service wanted s.batches s.mid after end → (let mid = s.mid in after.faults ≡ mid.faults)
      one Closed other e = e.1.3
      one Counted other e = ap (λ (sight : Sight L). sight.faults) e.1
      one Door other e = absurd (other refl)
      one Log other e = let driven = e.1.1 in driven.steady
      one Memory other e = memory e.1
        where
          memory : IsUndriven see service.framing s.mid after ⊎ ((batch : Batch L) × HasDriven see service (cells_at_end service empty_cells 0 s.batches) (length s.batches) (number_at_end 0 s.batches) batch s.mid after Stands) → (let mid = s.mid in after.faults ≡ mid.faults)
          memory (inl undriven) = undriven.steady
          memory (inr (batch, driven)) = driven.steady

  -- where it ended with the log, its count rose
  pub log_rose : (wanted : ℕ) (before after : Sight L) → Served wanted before after Log → Rose (log_faults before) (log_faults after)
  log_rose wanted before after s =
      let mid = s.mid in
      let driven = s.ended.1.1 in
      let broke = driven.gained in
      subst (λ (n : ℕ). Rose n (log_faults after)) (log_steady empty_cells 0 0 before mid s.batches s.served) broke.rose

  -- and else it didn't
  pub log_same : (wanted : ℕ) (before after : Sight L) (end : ServeEnd) → (end ≡ Log → ⊥) → Served wanted before after end → log_faults after ≡ log_faults before
  log_same wanted before after end other s = one end other s.ended ∙ log_steady empty_cells 0 0 before s.mid s.batches s.served
    where
      stood : (mid : Sight L) → after.log ≡ mid.log → log_faults after ≡ log_faults mid
      stood mid is = ap (λ (log : Stream). log.faults) is

      one : (end : ServeEnd) → (end ≡ Log → ⊥) → HasEnded see service wanted s.batches s.mid after end → log_faults after ≡ log_faults s.mid
      one Closed other e = stood s.mid e.1.2
      one Counted other e = ap log_faults e.1
      one Door other e = stood s.mid e.1.2
      one Log other e = absurd (other refl)
      one Memory other e = memory e.1
        where
          memory : IsUndriven see service.framing s.mid after ⊎ ((batch : Batch L) × HasDriven see service (cells_at_end service empty_cells 0 s.batches) (length s.batches) (number_at_end 0 s.batches) batch s.mid after Stands) → log_faults after ≡ log_faults s.mid
          memory (inl undriven) = stood s.mid undriven.log_
          memory (inr (batch, driven)) = stood s.mid driven.gained
