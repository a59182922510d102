-- Steps of reading a line: keys, marks, codes and ends that a whole text is.
use Rattle.std.specs.Prelude.{◌≡◌, ℕ, ◌<◌, ◌^◌, List, [], ◌∷◌, ◌++◌, codes}
use Rattle.std.specs.Fmt.{decimal}
use Rattle.flux_values.specs.declared.answers.Mode.{Mode}
use Rattle.flux_model.specs.declared.programs.Program.{Program}
use Rattle.flow_model.specs.declared.journals.Key.{Key}
use Rattle.flow_model.specs.declared.journals.Outcome.{Outcome}
use Rattle.flux_model.specs.Texts.{printed_mode}
use Rattle.flow_model.specs.Texts.{printed_key, printed_exit, printed_end}
use Rattle.flux_journal.specs.Entries.{IsKeyOf, IsOutcome}

abbrev pub IsKeyText : Program → List ℕ → Key → Type 0
IsKeyText p bytes key = IsKeyOf p key × (bytes ≡ printed_key p key)

abbrev pub IsModeMark : ℕ → Mode → Type 0
IsModeMark mark mode = mark ∷ [] ≡ printed_mode mode

abbrev pub IsHoldText : Program → List ℕ → Key → Mode → Type 0
IsHoldText p bytes key mode = IsKeyOf p key × (bytes ≡ printed_key p key ++ printed_mode mode)

abbrev pub IsCodeText : List ℕ → ℕ → Type 0
IsCodeText bytes code = (code < 2 ^ 16) × (bytes ≡ codes "fail " ++ decimal code)

abbrev pub IsExitText : List ℕ → Outcome → Type 0
IsExitText bytes outcome = IsOutcome outcome × (bytes ≡ printed_exit outcome)

abbrev pub IsEndText : List ℕ → Outcome → Type 0
IsEndText bytes outcome = IsOutcome outcome × (bytes ≡ printed_end outcome)
