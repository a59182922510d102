use Rattle.std.proofs.Common.{◌≡◌, false, take, drop, []}
use Rattle.flux_doors.specs.Texts.{ends, grown, least_front, has_front}
use Rattle.flux_doors.proofs.framing.Framing.find_end.Given as goal

-- what is least, and whether there is one, follows from what is left to look at; no front passes yet
abbrev pub invariant-loop-place : goal.invariant-loop-place
invariant-loop-place l =
    (grown (ends l.self) (take l.place l.bytes) (drop l.place l.bytes) ≡ least_front (ends l.self) l.bytes)
    × (has_front (ends l.self) (take l.place l.bytes) (drop l.place l.bytes) ≡ has_front (ends l.self) [] l.bytes)
    × (ends l.self (take l.place l.bytes) ≡ false)
