-- The text of a link: a request's head, or a line.
use Rattle.std.specs.Prelude.{ℕ, ◌-◌, Bool, ◌||◌, nat_eq, if◌then◌else◌}
use Rattle.std.specs.Prelude.{List, [], ◌∷◌, ◌++◌, take, length}
use Rattle.std.specs.List.{ends_with}
use Rattle.flux_doors.specs.declared.framing.Framing.{Framing}
use Rattle.flux_doors.specs.declared.framing.Framing.TheVariants.{Head, Line}

-- the most bytes of a text
abbrev pub limit_of : Framing → ℕ
limit_of Head = 16384
limit_of Line = 1024

-- a line's end and an empty line: LF LF
abbrev pub empty_line : List ℕ
empty_line = 10 ∷ 10 ∷ []

-- the same with CR: LF CR LF
abbrev pub empty_line_cr : List ℕ
empty_line_cr = 10 ∷ 13 ∷ 10 ∷ []

-- a line's end: LF
abbrev pub line_end : List ℕ
line_end = 10 ∷ []

-- a head ends with an empty line, and a line with its end
abbrev pub ends : Framing → List ℕ → Bool
ends Head front = ends_with nat_eq front empty_line || ends_with nat_eq front empty_line_cr
ends Line front = ends_with nat_eq front line_end

-- the least that passes a test of `seen`, and of `seen` with more and more of the bytes after it;
-- all of these where none does
abbrev pub grown : (List ℕ → Bool) → List ℕ → List ℕ → List ℕ
grown test seen [] = seen
grown test seen (b ∷ bytes) = if test seen then seen else grown test (seen ++ b ∷ []) bytes

-- the least front of some bytes that passes a test, and all of them where none does
abbrev pub least_front : (List ℕ → Bool) → List ℕ → List ℕ
least_front test bytes = grown test [] bytes

-- whether one does, of those that begin with `seen`
abbrev pub has_front : (List ℕ → Bool) → List ℕ → List ℕ → Bool
has_front test seen [] = test seen
has_front test seen (b ∷ bytes) = test seen || has_front test (seen ++ b ∷ []) bytes

-- a line without its end, LF or CR LF; a head is as it is
abbrev pub trimmed : Framing → List ℕ → List ℕ
trimmed Head text = text
trimmed Line text =
    if ends_with nat_eq text (13 ∷ 10 ∷ []) then take (length text - 2) text
    else if ends_with nat_eq text line_end then take (length text - 1) text
    else text

-- the text of all that a link gives: of so many bytes at most, the least front that ends it, or all
abbrev pub text_of : Framing → List ℕ → List ℕ
text_of framing left = trimmed framing (least_front (ends framing) (take (limit_of framing) left))
