-- Steps of the reader: the piece at the front of a text's bytes, as `read_piece` finds it.
use Rattle.std.specs.Prelude.{ℕ, ◌+◌, ◌*◌, ◌==◌, nat_lt, if◌then◌else◌, List, [], ◌∷◌, slice_get, Option, Some, None}
use Rattle.std.specs.Char.{digit_value}
use Rattle.flux_spelling.specs.declared.reading.Piece.{Piece}
use Rattle.flux_spelling.specs.declared.reading.Piece.TheVariants.{Spells, Stops}
use Rattle.flux_values.specs.Spellings.{escaped}

-- the digit that a byte is
abbrev pub digit_in : Option ℕ → Option ℕ
digit_in None = None
digit_in (Some b) = if nat_lt (digit_value b) 16 then Some (digit_value b) else None

-- two digits
abbrev pub pair_of : Option ℕ → Option ℕ → Piece
pair_of None second = Stops 2
pair_of (Some high) None = Stops 3
pair_of (Some high) (Some low) = Spells (16 * high + low) 4

-- after `\x`
abbrev pub hexadecimal_of : List ℕ → Piece
hexadecimal_of bytes = pair_of (digit_in (slice_get bytes 0)) (digit_in (slice_get bytes 1))

abbrev pub letter_of : Option ℕ → Piece
letter_of (Some byte) = Spells byte 2
letter_of None = Stops 1

-- after `\`
abbrev pub escape_of : List ℕ → Piece
escape_of [] = Stops 1
escape_of (letter ∷ bytes) =
    if letter == 120 then hexadecimal_of bytes else letter_of (escaped letter)

abbrev pub piece_of : List ℕ → Piece
piece_of [] = Stops 0
piece_of (b ∷ bytes) =
    if b == 92 then escape_of bytes else
    if b == 34 then Stops 0 else
    if b == 10 then Stops 0 else Spells b 1
