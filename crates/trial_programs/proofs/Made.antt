-- A setup may be run where what it is made of may be run.
use Rattle.std.proofs.Common.{List, sym, subst}
use Rattle.std.specs.Arc.{arc_value}
use Rattle.flux_values.specs.Meanings.{LibraryMeaning}
use Rattle.flux_model.specs.declared.programs.Program.{Program}
use Rattle.flux_model.specs.declared.items.Item.{Item}
use Rattle.flux_plan.specs.declared.plans.Plan.{Plan}
use Rattle.flow_state.specs.declared.setups.Setup as code
use Rattle.flow_state.specs.States.{MayRun}
use Rattle.trial_programs.specs.Made.{IsMadeOf}

pub may_run : {L : Type 0} (meaning : L → LibraryMeaning) (program : Program) (plans : List Plan) (items : List Item)
    (library : L) (setup : code.Setup L) → IsMadeOf program plans items library setup
    → MayRun (meaning library) program plans items
    → MayRun (meaning (arc_value setup.library)) (arc_value setup.program) (arc_value setup.plans) setup.items
may_run {L} meaning program plans items library setup made may =
    subst (λ (l : L). MayRun (meaning l) (arc_value setup.program) (arc_value setup.plans) setup.items)
    (sym made.library_)
    (subst (λ (p : Program). MayRun (meaning library) p (arc_value setup.plans) setup.items) (sym made.program_)
    (subst (λ (ps : List Plan). MayRun (meaning library) program ps setup.items) (sym made.plans_)
    (subst (λ (its : List Item). MayRun (meaning library) program plans its) (sym made.items_) may)))
