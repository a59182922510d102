-- Values that a flow carries, where an answer has them.
use Rattle.std.specs.Prelude.{◌≡◌, [], ◌∷◌}
use Rattle.flux_values.specs.declared.values.Value.{Value}
use Rattle.flux_values.specs.declared.answers.CallResult.TheVariants as results
use Rattle.flow_model.specs.Carried.{good_values}
use Rattle.flux_examples.specs.Small.{int, answer}

-- those of a call that ended well are carried as its answer has them; a failure has none
abbrev pub AnswersAreCarried : Type 0
AnswersAreCarried = (good_values (answer (results.Good (int 7 ∷ []))).result ≡ int 7 ∷ []) × (good_values (results.Bad 3) ≡ [])

-- no value is made of a failure, and none of an answer is left out
abbrev pub NoValueIsMade : Type 0
NoValueIsMade = (value : Value) → good_values (results.Bad 3) ≡ value ∷ [] → ⊥

abbrev pub NoValueIsLost : Type 0
NoValueIsLost = good_values (answer (results.Good (int 7 ∷ []))).result ≡ [] → ⊥
