-- Where the first of a mark is.
use Rattle.std.proofs.Common.{◌≡◌, ℕ, ◌==◌, ◌+◌, ◌-◌, ◌<◌, ◌≤◌, List, [], length, take, drop, sym, ap, ◌∙◌, arith, take_all, length-drop}
use Rattle.std.specs.List.{position_or_len}
use Rattle.std.proofs.lemmas.Bool.{false_from_ne_true}
use Rattle.std.proofs.lemmas.List.{drop_all}
use Rattle.std.proofs.lemmas.List.Sums.{position_or_len_is}
use Rattle.memchr.specs.Find.{NoneBefore, Passes, is_byte}
use Rattle.nodes_tracker.specs.Asks.{front, behind}

at_mark : (mark : ℕ) (bytes : List ℕ) (at : ℕ) → NoneBefore (Passes (is_byte mark) bytes) 0 (length bytes) at
    → Passes (is_byte mark) bytes at → position_or_len (λ b. b == mark) bytes ≡ at
at_mark mark bytes at none there =
    position_or_len_is (λ b. b == mark) bytes at 0 (omega (arith, none.high))
    (λ k lt. false_from_ne_true _ (none.before k (omega arith) lt)) (λ _. there)

pub front_cut : (mark : ℕ) (bytes : List ℕ) (at : ℕ) → NoneBefore (Passes (is_byte mark) bytes) 0 (length bytes) at
    × Passes (is_byte mark) bytes at → take at bytes ≡ front mark bytes
front_cut mark bytes at found = ap (λ n. take n bytes) (sym (at_mark mark bytes at found.0 found.1))

pub behind_cut : (mark : ℕ) (bytes : List ℕ) (at : ℕ) → NoneBefore (Passes (is_byte mark) bytes) 0 (length bytes) at
    × Passes (is_byte mark) bytes at
    → take (length bytes - (at + 1)) (drop (at + 1) bytes) ≡ behind mark bytes
behind_cut mark bytes at found =
    take_all (length bytes - (at + 1)) (drop (at + 1) bytes) (omega (arith, length-drop (at + 1) bytes))
    ∙ ap (λ n. drop (n + 1) bytes) (sym (at_mark mark bytes at found.0 found.1))

no_mark : (mark : ℕ) (bytes : List ℕ) → ((k : ℕ) → 0 ≤ k → k < length bytes → Passes (is_byte mark) bytes k → ⊥)
    → position_or_len (λ b. b == mark) bytes ≡ length bytes
no_mark mark bytes none =
    position_or_len_is (λ b. b == mark) bytes (length bytes) 0 (omega arith)
    (λ k lt. false_from_ne_true _ (none k (omega arith) lt)) (λ lt. absurd (omega arith))

pub front_whole : (mark : ℕ) (bytes : List ℕ) → ((k : ℕ) → 0 ≤ k → k < length bytes → Passes (is_byte mark) bytes k → ⊥)
    → bytes ≡ front mark bytes
front_whole mark bytes none =
    sym (ap (λ n. take n bytes) (no_mark mark bytes none) ∙ take_all (length bytes) bytes (omega arith))

pub behind_none : (mark : ℕ) (bytes : List ℕ) → ((k : ℕ) → 0 ≤ k → k < length bytes → Passes (is_byte mark) bytes k → ⊥)
    → [] ≡ behind mark bytes
behind_none mark bytes none =
    sym (ap (λ n. drop (n + 1) bytes) (no_mark mark bytes none) ∙ drop_all (length bytes + 1) bytes (omega arith))
