-- Queues of queues.
use Rattle.std.specs.Prelude.{ℕ, ◌+◌, List, [], ◌∷◌, length}
use Rattle.std.specs.declared.collections.VecDeque.{VecDeque}
use Rattle.std.specs.VecDeque.{deque_len}

-- how many some queues have in all
abbrev pub queued_in : {X Z : Type 0} → List (VecDeque X Z) → ℕ
queued_in [] = 0
queued_in (queue ∷ queues) = deque_len queue + queued_in queues

-- the same of lists
abbrev pub links_of : {X : Type 0} → List (List X) → ℕ
links_of [] = 0
links_of (batch ∷ batches) = length batch + links_of batches
