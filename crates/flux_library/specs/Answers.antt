-- Answers of nodes, and what they read in their arguments.
use Rattle.std.specs.Prelude.{ℕ, List, [], ◌∷◌}
use Rattle.flux_values.specs.declared.values.Value.{Value}
use Rattle.flux_values.specs.declared.values.Value.TheVariants.{Text}
use Rattle.flux_values.specs.declared.answers.Answer.{Answer}
use Rattle.flux_values.specs.declared.answers.CallResult.TheVariants.{Good, Bad}

-- ok with values, and nothing else
abbrev pub ok : List Value → Answer
ok values = record { result = Good values; puts = []; emits = [] }

-- fails with a code, and nothing else
abbrev pub fails : ℕ → Answer
fails code = record { result = Bad code; puts = []; emits = [] }

-- ok without values, and emits
abbrev pub emits : List ℕ → Answer
emits bytes = record { result = Good []; puts = []; emits = bytes }

-- the text of a number and a text; of no meaning for other values
abbrev pub the_text : List Value → List ℕ
the_text (number ∷ Text text ∷ []) = text
the_text values = []
