use Rattle.std.proofs.Common.{◌∙◌, ◌+◌, List, Option, drop, ap, sym}
use Rattle.std.proofs.lemmas.List.{at_drop_more}
use Rattle.flux_values.specs.declared.answers.Mode.{Mode}
use Rattle.flux_syntax.specs.declared.declarations.Constraint.{Constraint}
use Rattle.flux_names.specs.steps.Classes.{with_constraint, with_constraints}
use Rattle.flux_names.proofs.Joined.{length_with}
use Rattle.flux_names.proofs.modes.join_all.Goals as goal

pub loop-constraint-preserved : goal.loop-constraint-preserved
loop-constraint-preserved c =
    let classes = c.args.classes.now in
    let all = c.args.constraints.now in
    let modes = c.loop-constraint.modes.items in
    let i = c.loop-constraint.constraint-index in
    let own = c.constraint-item.result in (
      rw c.join.ensures (length_with own classes modes c.loop-constraint.invariant.0),
      c.loop-constraint.invariant.1
          ∙ at_drop_more (λ (cs : List Constraint). with_constraints cs classes modes) all i own c.loop-constraint-test.true
          ∙ ap (λ (k : Constraint). with_constraints (drop (i + 1) all) classes (with_constraint k classes modes)) (sym c.constraint-item.is)
          ∙ ap (λ (m : List (Option Mode)). with_constraints (drop (i + 1) all) classes m) (sym c.join.ensures),
    )
