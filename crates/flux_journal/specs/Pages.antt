-- A text in pages.
use Rattle.std.specs.Prelude.{ℕ, List, ◌++◌}
use Rattle.std.specs.List.{flat_map}

-- the full pages, one after the other, and the last one after them
abbrev pub joined : List (List ℕ) → List ℕ → List ℕ
joined full last = flat_map (λ page. page) full ++ last
