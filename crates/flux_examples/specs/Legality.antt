-- A journal that is legal and whole, and one that isn't.
use Rattle.std.specs.Prelude.{List, [], ◌∷◌, codes}
use Rattle.flux_values.specs.declared.answers.CallResult.TheVariants as results
use Rattle.flow_model.specs.declared.journals.Entry.{Entry}
use Rattle.flow_model.specs.declared.journals.Event.TheVariants.{Enter, Exit, End}
use Rattle.flow_model.specs.declared.journals.Outcome.TheVariants.{Bad}
use Rattle.flow_model.specs.Setup.{Setup}
use Rattle.flow_model.specs.Legal.{IsLegal, IsWhole}
use Rattle.flux_examples.specs.Small.{int, no, concrete, called, setup_of, none_held, by}

-- one flow through one node, whose library node always fails with 1
abbrev pub failing : Setup
failing = setup_of (concrete (codes "Fail") [] [] ∷ []) none_held (codes "k") (int 7)

abbrev pub failed : List Entry
failed = by 0 (Enter (no 0)) ∷ by 0 (called 0 (int 7 ∷ []) (results.Bad 1))
    ∷ by 0 (Exit (no 0) (Bad 1)) ∷ by 0 (End (Bad 1)) ∷ []

abbrev pub FailedIsWhole : Type 0
FailedIsWhole = IsLegal failing failed × IsWhole failing failed

-- the same with another answer, which the flow's walk follows too
abbrev pub failed_otherwise : List Entry
failed_otherwise = by 0 (Enter (no 0)) ∷ by 0 (called 0 (int 7 ∷ []) (results.Bad 2)) ∷ []

abbrev pub OthersAnswersAreRefused : Type 0
OthersAnswersAreRefused = IsLegal failing failed_otherwise → ⊥

-- and what was begun is not whole
abbrev pub BegunIsNotWhole : Type 0
BegunIsNotWhole = IsWhole failing (by 0 (Enter (no 0)) ∷ []) → ⊥
