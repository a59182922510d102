-- What is seen of a link, and of a door.
use Rattle.std.specs.Prelude.{◌≡◌, ℕ, ◌≤◌, List, ◌++◌, Option}
use Rattle.std.specs.Option.{option_map}
use Rattle.flux_outside.specs.Streams.{Stream}

-- a link: all that its client sends, the bytes left to read, and those that were left before its
-- last read, where they are reported; and the stream that its client is written
pub record SeenLink : Type 0 where
  pub had : Option (List ℕ)
  pub left : Option (List ℕ)
  pub left_before : Option (List ℕ)
  pub stream : Stream

-- a door: the links to come, by their batches, and those taken back, where they are reported; the
-- port that it is open at; how often opening or a first accept has failed, and how often a later
-- accept
pub record SeenDoor (L : Type 0) : Type 0 where
  pub to_come : Option (List (List L))
  pub taken_back : Option (List L)
  pub open_at : Option ℕ
  pub faults : ℕ
  pub late : ℕ

-- one link, before and after: its client sends the same
abbrev pub IsSame : SeenLink → SeenLink → Type 0
IsSame before after = after.had ≡ before.had

-- the same, and no read that shows came between
abbrev pub IsUnread : SeenLink → SeenLink → Type 0
IsUnread before after =
    IsSame before after × (after.left ≡ before.left) × (after.left_before ≡ before.left_before)

-- a door, before and after: neither of its counts fell
abbrev pub IsLater : {L : Type 0} → SeenDoor L → SeenDoor L → Type 0
IsLater before after = (before.faults ≤ after.faults) × (before.late ≤ after.late)

-- a door has taken back these links beside those before, where it reports them
abbrev pub TakesBack : {L : Type 0} → Option (List L) → Option (List L) → List L → Type 0
TakesBack before after links = after ≡ option_map (λ earlier. earlier ++ links) before

-- but for the links that it has taken back, a door is as it was
abbrev pub KeepsElse : {L : Type 0} → SeenDoor L → SeenDoor L → Type 0
KeepsElse before after =
    (after.to_come ≡ before.to_come) × (after.open_at ≡ before.open_at)
    × (after.faults ≡ before.faults) × (after.late ≡ before.late)
