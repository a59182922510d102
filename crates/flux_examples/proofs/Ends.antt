-- No entry is past the end of a journal.
use Rattle.std.proofs.Common.{◌≡◌, List, [], ◌∷◌, ◌++◌}

pub nothing_past : {X : Type 0} (before : List X) (x : X) (after : List X) → [] ≡ before ++ x ∷ after → ⊥
nothing_past [] x after e = absurd cc
nothing_past (y ∷ before) x after e = absurd cc
