-- What each node answers.
use Rattle.std.specs.Prelude.{ℕ, ◌+ℤ◌, if◌then◌else◌, ◌&&◌, ℤ, pos, nat_abs, List, [], ◌∷◌, ◌++◌, take, drop, Option, Some, None, codes, int_le}
use Rattle.std.specs.Str.{bytes_eq}
use Rattle.std.specs.FinMap.{get}
use Rattle.flux_values.specs.Texts.{printed_value}
use Rattle.flux_values.specs.Cells.{CellMap}
use Rattle.flux_values.specs.declared.values.Value.{Value}
use Rattle.flux_values.specs.declared.values.Value.TheVariants.{Int, Bool, Text}
use Rattle.flux_values.specs.declared.answers.Answer.{Answer}
use Rattle.flux_values.specs.declared.answers.CallResult.TheVariants.{Good}
use Rattle.flux_library.specs.Answers.{ok, fails, emits, the_text}
use Rattle.nodes_counter.specs.declared.nodes.Node.{Node}
use Rattle.nodes_counter.specs.declared.nodes.Node.TheVariants as nodes
use Rattle.nodes_counter.specs.Numbers.{fits, int_spelled}

-- puts a number under a name of a cell, and is ok with another
abbrev pub puts : List ℕ → List ℕ → ℤ → ℤ → Answer
puts cell name number given = record {
  result = Good (Int given ∷ []);
  puts = record { cell = cell; name = name; value = Some (Int number) } ∷ [];
  emits = [];
}

-- ---- what nodes read

-- a name that is absent or of another kind reads as 0; so does a number that no program can hold
abbrev pub number_or_zero : Option Value → ℤ
number_or_zero (Some (Int number)) = if fits number then number else pos 0
number_or_zero (Some (Bool truth)) = pos 0
number_or_zero (Some (Text text)) = pos 0
number_or_zero None = pos 0

-- the number under a name of the one cell
abbrev pub number_under : List ℕ → List CellMap → ℤ
number_under name (cell ∷ []) = number_or_zero (get cell name)
number_under name [] = pos 0
number_under name (cell ∷ next ∷ cells) = pos 0

-- the one number that is given; of no meaning for other values
abbrev pub the_number : List Value → ℤ
the_number (Int number ∷ []) = number
the_number values = pos 0

-- the number of a text and a number
abbrev pub the_amount : List Value → ℤ
the_amount (text ∷ Int number ∷ []) = number
the_amount values = pos 0

-- ---- the nodes

-- `Fail` fails with its number where that is from 1 to 255, and else is ok with it
abbrev pub fail_call : ℤ → Answer
fail_call number =
    if int_le (pos 1) number && int_le number (pos 255) then fails (nat_abs number)
    else ok (Int number ∷ [])

-- `Show` emits the printed number and LF
abbrev pub show_call : ℤ → Answer
show_call number = emits (printed_value (Int number) ++ codes "\n")

-- the number in `Command`'s text `add`, one space and a spelling up to the end
abbrev pub added : List ℕ → Option ℤ
added text = if bytes_eq (take 4 text) (codes "add ") then int_spelled (drop 4 text) else None

-- `Command` is ok with `add` and the number, or fails 2
abbrev pub add_command : Option ℤ → Answer
add_command (Some number) = ok (Text (codes "add") ∷ Int number ∷ [])
add_command None = fails 2

-- `Command` is ok with `get` and 0 for the text `get`
abbrev pub command_call : List ℕ → Answer
command_call text =
    if bytes_eq text (codes "get") then ok (Text (codes "get") ∷ Int (pos 0) ∷ [])
    else add_command (added text)

-- `Add` puts the sum under `total` and is ok with it; it fails 1 where that is outside i64
abbrev pub add_call : ℤ → Answer
add_call sum = if fits sum then puts (codes "counter") (codes "total") sum sum else fails 1

-- `Bump` puts the next number under `n` and is ok with its argument; it fails 1 where that is none
abbrev pub bump_call : ℤ → ℤ → Answer
bump_call next number =
    if fits next then puts (codes "visits") (codes "n") next number else fails 1

-- what a node answers on values of its kinds and on its cells
abbrev pub answer_of : Node → List Value → List CellMap → Answer
answer_of nodes.Tick args cells = ok []
answer_of nodes.Listen args cells = ok []
answer_of nodes.Pass args cells = ok args
answer_of nodes.Fail args cells = fail_call (the_number args)
answer_of nodes.Show args cells = show_call (the_number args)
answer_of nodes.Echo args cells = emits (the_text args)
answer_of nodes.Refuse args cells = emits (codes "error\n")
answer_of nodes.Command args cells = command_call (the_text args)
answer_of nodes.Amount args cells = ok (Int (the_amount args) ∷ [])
answer_of nodes.Add args cells =
    add_call (number_under (codes "total") cells +ℤ the_number args)
answer_of nodes.Read args cells = ok (Int (number_under (codes "total") cells) ∷ [])
answer_of nodes.Bump args cells =
    bump_call (number_under (codes "n") cells +ℤ pos 1) (the_number args)

-- the answer of a name; of no meaning where the library doesn't have it
abbrev pub answer_named : Option Node → List Value → List CellMap → Answer
answer_named (Some node) args cells = answer_of node args cells
answer_named None args cells = ok []
