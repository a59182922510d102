use Rattle.std.proofs.Common.{◌∙◌, sym, ap, length, arith}
use Rattle.flux_audit.proofs.Opening.{no_head, told_other, at_none}
use Rattle.flux_audit.proofs.heads.open.Goals as goal

pub returns-in_err-head : goal.returns-in_err-head
returns-in_err-head c =
    at_none _ c.from_residual-in_err-head.result c.from_residual-in_err-head.ensures
    (no_head c.args.text.now c.in_ok-next_line.field-0.now c.next_line.new.self c.args.flows (sym c.if-not-is_headed.ensures)
    (sym c.new-lines.ensures ∙ c.in_ok-next_line.ensures.found) (omega (arith, c.ranges.flows))
    (omega (arith, c.next_line.ensures.few, ap length c.in_ok-next_line.ensures.found)) c.in_err-head.ensures.none)

pub returns : goal.returns
returns c =
    told_other c.args.text.now c.in_ok-next_line.field-0.now c.next_line.new.self c.args.flows (sym c.if-not-is_headed.ensures)
    (sym c.new-lines.ensures ∙ c.in_ok-next_line.ensures.found) (omega (arith, c.ranges.flows))
    (omega (arith, c.next_line.ensures.few, ap length c.in_ok-next_line.ensures.found))
    c.in_ok-head.head c.count.result c.in_ok-head.ensures.once c.count.ensures c.if-eq.ensures
