-- Doors that give links back one after another.
use Rattle.std.proofs.Common.{◌≤◌, refl, sym, subst, ◌∙◌, ℕ}
use Rattle.flux_doors.specs.Seen.{SeenDoor, IsLater, KeepsElse}

pub keeps_none : {L : Type 0} → (door : SeenDoor L) → KeepsElse door door
keeps_none door = (refl, refl, refl, refl)

pub keeps_twice : {L : Type 0} → (before mid after : SeenDoor L) → KeepsElse before mid → KeepsElse mid after → KeepsElse before after
keeps_twice before mid after first more =
    (more.0 ∙ first.0, more.1 ∙ first.1, more.2 ∙ first.2, more.3 ∙ first.3)

-- no count falls after it either
pub later_kept : {L : Type 0} → (before mid after : SeenDoor L) → IsLater before mid → KeepsElse mid after → IsLater before after
later_kept before mid after later kept =
    let F : ℕ → Type 0 = λ n. before.faults ≤ n in
    let N : ℕ → Type 0 = λ n. before.late ≤ n in
    (subst F (sym kept.2) later.0, subst N (sym kept.3) later.1)
