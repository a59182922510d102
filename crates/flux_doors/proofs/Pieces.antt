-- Pieces of what a link gives.
use Rattle.std.proofs.Common.{◌≡◌, ℕ, ◌+◌, ◌-◌, ◌<◌, ◌≤◌, min, List, [], ◌++◌, length, length-append, take, drop, refl, sym, ap, ◌∙◌, arith}
use Rattle.std.proofs.Math.Seq.{take-append_seam}
use Rattle.std.proofs.lemmas.List.{take-append-drop, drop-drop, take_all, nil_from_length, length-take, length-drop}

-- a piece that was copied into a buffer's front, and what is left after it, are what was left
pub piece-and-rest : (input copied tail : List ℕ) (given n : ℕ) → copied ≡ take n (drop given input) → length copied ≡ n
    → drop given input ≡ take n (copied ++ tail) ++ drop (given + n) input
piece-and-rest input copied tail given n is size =
    let front : take n (copied ++ tail) ≡ copied = ap (λ k. take k (copied ++ tail)) (sym size) ∙ take-append_seam copied tail in
    let rest : drop n (drop given input) ≡ drop (given + n) input = drop-drop n given input in
    sym (take-append-drop n (drop given input)) ∙ ap (λ l. take n (drop given input) ++ l) rest
    ∙ ap (λ l. l ++ drop (given + n) input) (sym is ∙ sym front)

-- a read that copied a piece into a buffer's front consumed it, and gave none only at the end
pub reads-piece : (input bytes copied buffer : List ℕ) (given piece m n : ℕ) → bytes ≡ input → copied ≡ take n (take (length bytes - given) (drop given bytes))
    → m ≡ min (length (take (length bytes - given) (drop given bytes))) piece → n ≡ min m (length buffer) → 0 < piece
    → (drop given input ≡ take n (copied ++ drop n buffer) ++ drop (given + n) input) × (n ≡ 0 → 0 < length (copied ++ drop n buffer) → drop (given + n) input ≡ [])
reads-piece input bytes copied buffer given piece m n same is first second some =
    let size : length (drop given bytes) ≤ length bytes - given = omega (arith, length-drop given bytes) in
    let all : take (length bytes - given) (drop given bytes) ≡ drop given input = take_all (length bytes - given) (drop given bytes) size ∙ ap (drop given) same in
    let piece_is : copied ≡ take n (drop given input) = is ∙ ap (take n) all in
    let bound : m ≡ min (length (drop given input)) piece = first ∙ ap (λ l. min (length l) piece) all in
    let count : length copied ≡ n = ap length piece_is ∙ (let cut : length (take n (drop given input)) ≡ min n (length (drop given input)) = length-take n (drop given input) in omega (arith, cut, bound, second)) in (
      piece-and-rest input copied (drop n buffer) given n piece_is count,
      λ zero room.
          let room' : length (copied ++ drop n buffer) ≡ length copied + length (drop n buffer) = length-append copied (drop n buffer) in
          nil_from_length (drop (given + n) input) (omega (arith, zero, room, room', count, bound, second, some, length-drop n buffer, length-drop given input, length-drop (given + n) input)),
    )
