use Rattle.std.proofs.Common.{sym, ◌∙◌, arith}
use Rattle.nodes_web.proofs.Endings.{newlines_cut}
use Rattle.nodes_web.proofs.calls.without_newlines.Goals as goal
use Rattle.nodes_web.proofs.calls.without_newlines.Goals.{then-loop-at-test+else-is_newline, else-loop-at-test}

pub returns : goal.returns
returns c =
    newlines_cut c.args.text.now c.loop-at.at c.loop-at.invariant.0 c.loop-at.invariant.1 (λ lt.
    elim c.loop-at-test.branch [ then-loop-at-test+else-is_newline w ↦ sym w.is_newline.ensures ∙ w.if-is_newline.false | else-loop-at-test w ↦ absurd (omega (arith, w.loop-at-test.false)) ])
