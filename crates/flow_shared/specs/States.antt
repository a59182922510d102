-- What a shared core, its seats and its turns are seen as.
use Rattle.std.specs.Prelude.{ℕ, List, refl}
use Rattle.std.specs.Coded.{Coded, code_by, coded×, coded_ℕ, coded_list}
use Rattle.atomic_table.specs.Seated.{TableId, table_id_coded}
use Rattle.flow_model.specs.declared.journals.Entry.{Entry}
use Rattle.flow_model.specs.contracts.journals.Entry as entry
use Rattle.flow_core.specs.States.{CoreState, core_code}

-- what threads share: which one it is, and the core that it was made with, whose setup all its seats have
pub record SharedState (L : Type 0) : Type 0 where
  pub id : TableId
  pub base : CoreState L

-- a seat: what it shares, how many moves it has made, the journal that it last saw, and the places there of the
-- entries that its own turns added
pub record SeatState (L : Type 0) : Type 0 where
  pub shared : SharedState L
  pub moves : ℕ
  pub seen : List Entry
  pub places : List ℕ

-- a seat that has the turn, with the core that it found
pub record HeldState (L : Type 0) : Type 0 where
  pub shared : SharedState L
  pub moves : ℕ
  pub found : CoreState L
  pub places : List ℕ

-- their codes, as pairs
abbrev pub shared_code : {L : Type 0} → Coded L → Coded (SharedState L)
shared_code {L} library = code_by (TableId × CoreState L) (coded× table_id_coded (core_code library))
    (λ s. (s.id, s.base)) (λ t. record { id = t.0; base = t.1 }) (λ _. refl)

abbrev pub seat_code : {L : Type 0} → Coded L → Coded (SeatState L)
seat_code {L} library = code_by (SharedState L × (ℕ × (List Entry × List ℕ)))
    (coded× (shared_code library) (coded× coded_ℕ (coded× (coded_list entry.the_row.coded) (coded_list coded_ℕ))))
    (λ s. (s.shared, (s.moves, (s.seen, s.places))))
    (λ t. record { shared = t.0; moves = t.1.0; seen = t.1.1.0; places = t.1.1.1 }) (λ _. refl)

abbrev pub held_code : {L : Type 0} → Coded L → Coded (HeldState L)
held_code {L} library = code_by (SharedState L × (ℕ × (CoreState L × List ℕ)))
    (coded× (shared_code library) (coded× coded_ℕ (coded× (core_code library) (coded_list coded_ℕ))))
    (λ h. (h.shared, (h.moves, (h.found, h.places))))
    (λ t. record { shared = t.0; moves = t.1.0; found = t.1.1.0; places = t.1.1.1 }) (λ _. refl)
