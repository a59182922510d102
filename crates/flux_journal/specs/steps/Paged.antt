-- Steps of printing in pages.
use Rattle.std.specs.Prelude.{ℕ, List}
use Rattle.std.specs.List.{flat_map}

-- what pages have, one after the other
abbrev pub text_of : List (List ℕ) → List ℕ
text_of = flat_map (λ page. page)
