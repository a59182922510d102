-- Batches of links, and how many they are.
use Rattle.std.proofs.Common.{◌≡◌, ℕ, ◌+◌, List, [], ◌∷◌, ◌++◌, length, map, refl, sym, ap, ◌∙◌, append_assoc, arith}
use Rattle.std.specs.declared.collections.VecDeque.{VecDeque}
use Rattle.std.specs.VecDeque.{deque_len, deque_items}
use Rattle.flux_doors.specs.steps.Queues.{queued_in, links_of}

-- one batch more has its links more
pub links_of-append : {X : Type 0} → (batches : List (List X)) (batch : List X) → links_of (batches ++ batch ∷ []) ≡ links_of batches + length batch
links_of-append [] batch = omega arith
links_of-append (first ∷ batches) batch = let more : links_of (batches ++ batch ∷ []) ≡ links_of batches + length batch = links_of-append batches batch in omega (arith, more)

-- the last batch that was left is the first that is queued
pub queued-links : {X Z : Type 0} → (all old left : List (List X)) (batch : List X) (later now : List (VecDeque X Z)) (queue : VecDeque X Z) → old ≡ left ++ batch ∷ []
    → old ++ map deque_items later ≡ all → queue.items ≡ batch → now ≡ queue ∷ later → left ++ map deque_items now ≡ all
queued-links all old left batch later now queue last before links more =
    ap (λ l. left ++ map deque_items l) more ∙ ap (λ b. left ++ b ∷ map deque_items later) links
    ∙ sym (append_assoc left (batch ∷ []) (map deque_items later)) ∙ ap (λ l. l ++ map deque_items later) (sym last) ∙ before

pub queued-count : {X Z : Type 0} → (old left : List (List X)) (batch : List X) (later now : List (VecDeque X Z)) (queue : VecDeque X Z) (n : ℕ) → old ≡ left ++ batch ∷ []
    → links_of old + queued_in later ≡ n → deque_len queue ≡ length batch → now ≡ queue ∷ later → links_of left + queued_in now ≡ n
queued-count old left batch later now queue n last before count more =
    let split : links_of old ≡ links_of left + length batch = ap links_of last ∙ links_of-append left batch in
    let added : queued_in now ≡ deque_len queue + queued_in later = ap queued_in more in
    omega (arith, split, added, before, count)
