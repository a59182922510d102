-- Steps of printing values with commas between them, and calls.
use Rattle.std.specs.Prelude.{ℕ, Bool, true, false, List, [], ◌∷◌, ◌++◌, map, codes}
use Rattle.std.specs.List.{flat_map}
use Rattle.flux_values.specs.Texts.{printed_value}
use Rattle.flux_values.specs.declared.values.Value.{Value}
use Rattle.flux_model.specs.declared.programs.Program.{Program}
use Rattle.flow_model.specs.declared.journals.CallMade.{CallMade}
use Rattle.flux_model.specs.Texts.{node_name, comma_separated, printed_values}
use Rattle.flow_model.specs.Texts.{printed_result, printed_put}

-- values with commas between them
abbrev pub listed : List Value → List ℕ
listed values = comma_separated (map printed_value values)

-- LF, where a line ends
abbrev pub line_end : Bool → List ℕ
line_end true = codes "\n"
line_end false = []

-- what is between the values so far and the next
abbrev pub separator : List Value → List ℕ
separator [] = []
separator (value ∷ values) = codes ", "

-- a call as far as its result
abbrev pub answered : Program → CallMade → List ℕ
answered p made =
    codes "call " ++ node_name p made.node ++ codes " " ++ printed_values made.args ++ codes " " ++ printed_result made.answer.result

-- and with its puts
abbrev pub called : Program → CallMade → List ℕ
called p made = answered p made ++ flat_map printed_put made.answer.puts
