use Rattle.std.proofs.Common.{ap, sym, ◌∙◌, Some, slice_get}
use Rattle.flux_values.proofs.CellLemmas.{keys_are, names_get, names_end}
use Rattle.flux_values.proofs.cells.Cell.name_at.Goals as goal

pub returns-in-Some : goal.returns-in-Some
returns-in-Some c =
    let there = c.in-Some.ensures.lookup.3 in
    let entry = c.in-Some.field-0.now in
    ap (λ e. Some e.0) (there.1 entry)
    ∙ sym (names_get c.entries.result.now c.args.place entry there.0)
    ∙ sym (ap (λ names. slice_get names c.args.place) (keys_are c.entries.result.now c.args.self.now c.entries.ensures.order c.entries.ensures.same))

pub returns-in-None : goal.returns-in-None
returns-in-None c =
    let end = c.in-None.ensures.lookup.3 in
    sym (names_end c.entries.result.now c.args.place end)
    ∙ sym (ap (λ names. slice_get names c.args.place) (keys_are c.entries.result.now c.args.self.now c.entries.ensures.order c.entries.ensures.same))
