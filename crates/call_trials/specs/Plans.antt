-- A node's instructions that take a lower class after a higher one.
use Rattle.std.specs.Prelude.{List, [], ◌∷◌}
use Rattle.flux_values.specs.declared.answers.Mode.TheVariants.{Writer}
use Rattle.flux_plan.specs.declared.plans.Instr.{Instr}
use Rattle.flux_plan.specs.declared.plans.Instr.TheVariants.{Take, Enter, Call, Exit, Drop, Return}

abbrev pub crossing : List Instr
crossing =
    Take (record { 0 = 1 }) Writer ∷ Take (record { 0 = 0 }) Writer ∷ Enter ∷ Call ∷ Exit
    ∷ Drop (record { 0 = 0 }) ∷ Drop (record { 0 = 1 }) ∷ Return ∷ []
