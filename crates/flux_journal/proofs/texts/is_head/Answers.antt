use Rattle.flux_journal.proofs.Journaled.{head_test, line_for, head_back}
use Rattle.flux_journal.proofs.texts.is_head.Goals as goal

pub returns-in-Some : goal.returns-in-Some
returns-in-Some c =
    head_test c.args.line.now c.in-Some.head.events c.args.events (line_for c.args.line.now c.in-Some.head.flows c.in-Some.head.events c.in-Some.ensures.found)

pub returns-in-None : goal.returns-in-None
returns-in-None c = (λ e. absurd cc, λ h. absurd (head_back c.args.line.now c.args.events c.in-None.ensures.none h))
