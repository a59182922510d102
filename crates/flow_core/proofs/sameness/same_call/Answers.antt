use Rattle.std.proofs.Common.{sym, ◌∙◌}
use Rattle.std.proofs.lemmas.Bool.{eqb-true}
use Rattle.flux_values.proofs.Equal.{values_equal}
use Rattle.flow_core.proofs.sameness.same_call.Goals as goal

pub returns-then-eq : goal.returns-then-eq
returns-then-eq c =
    let a = c.as_slice.ensures in
    let b = c.as_slice-then-eq.ensures in
    let args = values_equal c.as_slice.result.now c.as_slice-then-eq.result.now in (
      λ t. (
        (λ i. record { 0 = eqb-true c.args.a.now.node.0 c.args.b.now.node.0 (sym c.eq.ensures ∙ c.if-eq.true) i }),
        sym a ∙ args.0 (sym c.eq-then-eq.ensures ∙ t) ∙ b,
      ),
      λ h. c.eq-then-eq.ensures ∙ args.1 (a ∙ h.1 ∙ sym b),
    )
