use Rattle.std.proofs.Common.{sym, ◌∙◌, arith}
use Rattle.std.proofs.lemmas.Bool.{false≢true}
use Rattle.flow_core.specs.States.{setup_in}
use Rattle.flow_waits.proofs.Lowest.{blocked-more, lowest-is, none-live}
use Rattle.flow_waits.proofs.Ending.{live-is}
use Rattle.flow_waits.proofs.Turning.{ended-over}
use Rattle.flow_waits.proofs.drains.enabled.Goals as goal
use Rattle.flow_waits.proofs.drains.enabled.Goals.{else-not-is_ended-via-then-not-is_ended+else-not-blocked, else-not-is_ended-via-else-not-is_ended}

pub returns-then-not-blocked : goal.returns-then-not-blocked
returns-then-not-blocked g c =
    let setup = setup_in g.L.Meaning.meaning c.args.core.now in
    lowest-is setup c.args.core.now.entries c.loop-number.number c.loop-number.invariant
    (record {
      live = live-is setup c.args.core.now.entries c.loop-number.number
          (omega (arith, c.loop-number-test.true, c.flows-number-end.ensures))
          (sym c.is_ended.ensures ∙ c.if-not-is_ended.true);
      free = λ is. false≢true (sym c.if-not-blocked.true ∙ c.blocked.ensures.1 is);
    })

pub loop-number-preserved : goal.loop-number-preserved
loop-number-preserved g c =
    let setup = setup_in g.L.Meaning.meaning c.args.core.now in
    blocked-more setup c.args.core.now.entries c.loop-number.number c.loop-number.invariant
    (λ live. elim c.else-not-is_ended.branch [
      | else-not-is_ended-via-then-not-is_ended+else-not-blocked w ↦ w.blocked.ensures.0 w.if-not-blocked.false
      | else-not-is_ended-via-else-not-is_ended w ↦ absurd
          (ended-over setup c.args.core.now.entries c.loop-number.number
          (sym c.is_ended.ensures ∙ w.if-not-is_ended.false) live)
    ])

pub returns : goal.returns
returns g c =
    let setup = setup_in g.L.Meaning.meaning c.args.core.now in
    none-live setup c.args.core.now.entries (let kept = c.journal-journal.ensures.kept in kept.legal)
    c.loop-number.number (omega (arith, c.loop-number-test.false, c.flows-number-end.ensures))
    c.loop-number.invariant
