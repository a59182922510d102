use Rattle.std.proofs.Common.{sym, ◌∙◌}
use Rattle.flux_audit.proofs.Equal.{answer_equal}
use Rattle.flux_audit.proofs.sameness.same_answer.Goals as goal

pub returns : goal.returns
returns c =
    let equal = answer_equal c.args.a.now c.args.b.now in
    (λ t. equal.0 (sym c.eq.ensures ∙ t), λ h. c.eq.ensures ∙ equal.1 h)
