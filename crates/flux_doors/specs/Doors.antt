-- What a door gives, and when its counts rise.
use Rattle.std.specs.Prelude.{◌≡◌, ℕ, ◌+◌, Bool, true, false, List, [], ◌∷◌}
use Rattle.std.specs.Prelude.{Option, Some, None, Result, Ok, Err}
use Rattle.flux_outside.specs.Causes.{HasCause}
use Rattle.flux_outside.specs.declared.faults.Failed.{Failed}
use Rattle.flux_doors.specs.Seen.{SeenDoor}

-- the port that a door is open at after an opening: after one that failed it is as it was
abbrev pub opened_at : {T : Type 0} → ℕ → Option ℕ → Result T Failed → Option ℕ
opened_at port before (Ok answer) = Some port
opened_at port before (Err failed) = before

-- the batches that are left, from the first that has links; where none has, one without links
abbrev pub waiting : {L : Type 0} → List (List L) → List (List L)
waiting [] = [] ∷ []
waiting ([] ∷ batches) = waiting batches
waiting ((link ∷ links) ∷ batches) = (link ∷ links) ∷ batches

-- the batches that an accept looks at: a first one passes over those without links
abbrev pub looked_at : {L : Type 0} → Bool → List (List L) → List (List L)
looked_at true batches = waiting batches
looked_at false batches = batches

-- the first link of the first of some batches
abbrev pub first_link : {L : Type 0} → List (List L) → Option L
first_link [] = None
first_link ([] ∷ batches) = None
first_link ((link ∷ links) ∷ batches) = Some link

-- the batches without it
abbrev pub behind_first : {L : Type 0} → List (List L) → List (List L)
behind_first [] = []
behind_first ([] ∷ batches) = [] ∷ batches
behind_first ((link ∷ links) ∷ batches) = links ∷ batches

-- the batches that are left after an accept: after one that failed all are
abbrev pub left_behind : {L T : Type 0} → Bool → Result T Failed → List (List L) → List (List L)
left_behind first (Ok answer) batches = behind_first (looked_at first batches)
left_behind first (Err failed) batches = batches

-- how many links are out after an accept
abbrev pub out_after : {L : Type 0} → ℕ → Result (Option L) Failed → ℕ
out_after out (Ok (Some link)) = out + 1
out_after out (Ok None) = out
out_after out (Err failed) = out

-- where a first accept failed the one count of the door rose, where a later one did the other, and
-- else both are as before
abbrev pub HasAcceptCause : {L T : Type 0} → Bool → SeenDoor L → SeenDoor L → Result T Failed
    → Type 0
HasAcceptCause true before after result =
    HasCause before.faults after.faults result × (after.late ≡ before.late)
HasAcceptCause false before after result =
    HasCause before.late after.late result × (after.faults ≡ before.faults)
