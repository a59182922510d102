-- Programs that are served: sound, with their plans, and with a source whose links are read.
use Rattle.std.specs.Prelude.{ℕ, List}
use Rattle.flux_values.specs.Meanings.{LibraryMeaning}
use Rattle.flux_model.specs.declared.programs.Program.{Program}
use Rattle.flux_model.specs.Kinds.{NodeKinds}
use Rattle.flux_model.specs.Soundness.{IsSound}
use Rattle.flux_plan.specs.declared.plans.Plan.{Plan}
use Rattle.flux_plan.specs.Runs.{ArePlansOf}
use Rattle.flux_doors.specs.declared.framing.Framing.{Framing}
use Rattle.flux_sources.specs.Sources.{IsServed}

-- a sound program with its plans, and with one source by whose role links are read
pub record CanServe (meaning : LibraryMeaning) (p : Program) (plans : List Plan) (framing : Framing)
    : Type 0 where
  pub kinds : ℕ → NodeKinds
  pub sound : IsSound meaning p kinds
  pub plans_ : ArePlansOf p plans
  pub source : IsServed meaning p framing
