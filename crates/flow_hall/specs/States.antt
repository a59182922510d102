-- What a hall, its seats and its turns are seen as.
use Rattle.std.specs.Prelude.{ℕ, refl}
use Rattle.std.specs.Coded.{Coded, code_by, coded×, coded_ℕ}
use Rattle.atomic_table.specs.Seated.{TableId, table_id_coded}
use Rattle.flow_core.specs.States.{CoreState, core_code}

-- a hall: which one it is, and the core that it was made with
pub record HallState (L : Type 0) : Type 0 where
  pub id : TableId
  pub base : CoreState L

-- a seat: its hall, and how many moves it has made
pub record SeatState (L : Type 0) : Type 0 where
  pub hall : HallState L
  pub moves : ℕ

-- a seat that has the turn, with the core that it found
pub record HeldState (L : Type 0) : Type 0 where
  pub hall : HallState L
  pub moves : ℕ
  pub found : CoreState L

-- their codes, as pairs
abbrev pub hall_code : {L : Type 0} → Coded L → Coded (HallState L)
hall_code {L} library = code_by (TableId × CoreState L) (coded× table_id_coded (core_code library))
    (λ h. (h.id, h.base)) (λ t. record { id = t.0; base = t.1 }) (λ _. refl)

abbrev pub seat_code : {L : Type 0} → Coded L → Coded (SeatState L)
seat_code {L} library = code_by (HallState L × ℕ) (coded× (hall_code library) coded_ℕ)
    (λ s. (s.hall, s.moves)) (λ t. record { hall = t.0; moves = t.1 }) (λ _. refl)

abbrev pub held_code : {L : Type 0} → Coded L → Coded (HeldState L)
held_code {L} library = code_by (HallState L × (ℕ × CoreState L))
    (coded× (hall_code library) (coded× coded_ℕ (core_code library)))
    (λ h. (h.hall, (h.moves, h.found))) (λ t. record { hall = t.0; moves = t.1.0; found = t.1.1 }) (λ _. refl)
