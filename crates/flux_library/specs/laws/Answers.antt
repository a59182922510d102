-- What is read in arguments is a value.
use Rattle.std.proofs.Common.{◌<◌, ℕ, List, [], ◌∷◌, arith}
use Rattle.std.specs.List.{AllByRecursion}
use Rattle.std.proofs.lemmas.List.Elements.{All-nil}
use Rattle.flux_values.specs.declared.values.Value.{Value}
use Rattle.flux_values.specs.declared.values.Value.TheVariants as values
use Rattle.flux_values.specs.Reading.{IsValue}
use Rattle.flux_library.specs.Answers.{the_text}

no_text : IsValue (values.Text [])
no_text = (All-nil (λ (b : ℕ). b < 256), omega arith)

pub text_valid : (args : List Value) → AllByRecursion IsValue args → IsValue (values.Text (the_text args))
text_valid [] all = no_text
text_valid (v ∷ []) all = no_text
text_valid (v ∷ values.Int n ∷ []) all = no_text
text_valid (v ∷ values.Bool b ∷ []) all = no_text
text_valid (v ∷ values.Text t ∷ []) all = all.1.0
text_valid (v ∷ values.Int n ∷ w ∷ more) all = no_text
text_valid (v ∷ values.Bool b ∷ w ∷ more) all = no_text
text_valid (v ∷ values.Text t ∷ w ∷ more) all = no_text
