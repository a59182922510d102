use Rattle.std.proofs.Common.{true, false, sym, subst}
use Rattle.flux_table.specs.Lines.{HasThose}
use Rattle.flux_table.proofs.Sets.{set_is, those_more, those_undone}
use Rattle.flux_table.proofs.lines.push_with.Goals as goal

pub returns-in-Ok-clause-flows : goal.returns-in-Ok-clause-flows
returns-in-Ok-clause-flows c =
    let old = c.args.flows.now in let more = c.insert.new.self in let last = c.args.waiter in
    subst (λ l. HasThose more l last.mode) (sym c.in-Ok.ensures.ok)
    (those_more old more c.args.line.now last (set_is old more last.flow.0 true c.in_ok-insert.ensures.updates.0) c.requires.flows)

pub returns-in-Err-clause-flows : goal.returns-in-Err-clause-flows
returns-in-Err-clause-flows c =
    let old = c.args.flows.now in let more = c.insert.new.self in let new = c.remove.new.self in let last = c.args.waiter in
    subst (λ l. HasThose new l last.mode) (sym c.in-Err.ensures.err)
    (those_undone old more new c.args.line.now last (set_is old more last.flow.0 true c.in_ok-insert.ensures.updates.0)
    (set_is more new last.flow.0 false c.remove.ensures.updates.0) c.requires.nowhere c.requires.flows)
