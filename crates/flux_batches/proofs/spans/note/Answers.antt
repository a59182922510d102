use Rattle.std.proofs.Common.{sym, ◌∙◌, arith}
use Rattle.flux_batches.proofs.Spanning.{spans-silent, spans-more, silent-own}
use Rattle.flux_batches.proofs.spans.note.Goals as goal

pub returns-then-is_empty-clause-spans : goal.returns-then-is_empty-clause-spans
returns-then-is_empty-clause-spans c = λ entries size are.
    spans-silent entries c.args.entry.now c.args.spans.now are (λ flow within same.
    silent-own c.args.entry.now c.emission_of.result.now c.emission_of.ensures
    (sym c.is_empty.ensures ∙ c.if-is_empty.true))

pub returns-then-flow-spans-clause-spans : goal.returns-then-flow-spans-clause-spans
returns-then-flow-spans-clause-spans c = λ entries size are.
    spans-silent entries c.args.entry.now c.args.spans.now are (λ flow within same.
    absurd (omega (arith, c.if-flow-spans.true, within, same)))

pub returns-clause-spans : goal.returns-clause-spans
returns-clause-spans c = λ entries size are.
    spans-more entries c.args.entry.now c.args.spans.now are (record { from = 0; to = 0 }) c.with.result c.args.place
    c.if-flow-spans.false c.with.ensures size
