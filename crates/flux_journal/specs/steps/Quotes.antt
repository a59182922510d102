-- Steps of printing a text each of whose bytes means itself.
use Rattle.std.specs.Prelude.{ℕ, Bool, ◌&&◌, not, nat_le, ◌==◌, List, [], ◌∷◌, ◌++◌}

-- a byte from 32 to 126 that is no quote and no `\`
abbrev pub is_plain_byte : ℕ → Bool
is_plain_byte b = nat_le 32 b && nat_le b 126 && not (b == 34) && not (b == 92)

-- bytes between quotes as they are
abbrev pub quoted : List ℕ → List ℕ
quoted bytes = 34 ∷ bytes ++ 34 ∷ []
