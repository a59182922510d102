-- Doors and batches.
use Rattle.std.specs.Prelude.{◌≡◌, ℕ, true, false, List, [], ◌∷◌, Some, None, Ok, Err}
use Rattle.flux_outside.specs.declared.faults.Failed.{Failed}
use Rattle.flux_doors.specs.Doors.{opened_at, waiting, behind_first, HasAcceptCause}
use Rattle.flux_doors.specs.Seen.{SeenDoor}
use Rattle.flux_batches.specs.Gathered.{AreGathered}

-- the two counts
abbrev pub counts : ℕ → ℕ → SeenDoor ℕ
counts faults late = record {
  to_come = None;
  taken_back = None;
  open_at = None;
  faults = faults;
  late = late;
}

-- links 1 and 2 come together, and link 3 alone
abbrev pub two : List (List ℕ)
two = (1 ∷ 2 ∷ []) ∷ (3 ∷ []) ∷ []

-- the same after link 1
abbrev pub behind_one : List (List ℕ)
behind_one = (2 ∷ []) ∷ (3 ∷ []) ∷ []

-- and after links 1 and 2
abbrev pub behind_both : List (List ℕ)
behind_both = [] ∷ (3 ∷ []) ∷ []

pub record DoorsFit : Type 0 where
  -- an opening names the port, and one that failed changes nothing
  pub opened : opened_at {T = ℕ} 80 None (Ok 0) ≡ Some 80
  pub unopened : (failed : Failed) → opened_at {T = ℕ} 80 (Some 79) (Err failed) ≡ Some 79
  -- a batch without links is passed over; where none has links, there is one without
  pub passed : waiting ([] ∷ two) ≡ two
  pub nobody : waiting {L = ℕ} [] ≡ [] ∷ []
  -- the first link goes out of its batch, and a batch without links stays
  pub behind : behind_first two ≡ behind_one
  pub behind_none : behind_first behind_both ≡ behind_both
  -- a first accept that failed counts at the door, a later one by itself
  pub first : (failed : Failed)
      → HasAcceptCause {T = ℕ} true (counts 0 0) (counts 1 0) (Err failed)
  pub later : (failed : Failed)
      → HasAcceptCause {T = ℕ} false (counts 0 0) (counts 0 1) (Err failed)
  -- a batch has all links that came together, and fewer where a later accept failed
  pub all : AreGathered (Some two) (Some behind_both) 0 0 (1 ∷ 2 ∷ [])
  pub fewer : AreGathered (Some two) (Some behind_one) 0 1 (1 ∷ [])

pub record DoorsMisfit : Type 0 where
  -- a first accept that failed isn't counted as a later one
  pub first : (failed : Failed)
      → HasAcceptCause {T = ℕ} true (counts 0 0) (counts 0 1) (Err failed) → ⊥
  -- an accept that answered isn't counted
  pub answered : HasAcceptCause {T = ℕ} true (counts 0 0) (counts 1 0) (Ok 0) → ⊥
  -- no link is left at the door where no accept failed
  pub fewer : AreGathered (Some two) (Some behind_one) 0 0 (1 ∷ []) → ⊥
  -- none is passed over
  pub other : AreGathered (Some two) (Some behind_one) 0 1 (2 ∷ []) → ⊥
