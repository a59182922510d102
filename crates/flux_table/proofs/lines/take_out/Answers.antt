use Rattle.std.proofs.Common.{false, sym}
use Rattle.flux_table.proofs.Sets.{set_is, no_reader, kept_less, stands_writing, stands_reading}
use Rattle.flux_table.proofs.lines.take_out.Goals as goal

pub returns-then-remove-clause-kept : goal.returns-then-remove-clause-kept
returns-then-remove-clause-kept c = λ line kept.
    let readers = c.args.readers.now in let writers = c.args.writers.now in let flow = c.args.flow.0 in
    kept_less line flow readers writers readers c.remove.new.self kept
    (no_reader line flow readers writers kept (sym c.if-remove.ensures.test))
    (set_is writers c.remove.new.self flow false c.remove.ensures.updates.0)

pub returns-then-remove-clause-stands : goal.returns-then-remove-clause-stands
returns-then-remove-clause-stands c = λ line kept.
    stands_writing line c.args.flow.0 c.args.readers.now c.args.writers.now c.remove.result kept
    (sym c.if-remove.ensures.test) c.if-remove.true

pub returns-else-remove-clause-stands : goal.returns-else-remove-clause-stands
returns-else-remove-clause-stands c = λ line kept.
    stands_reading line c.args.flow.0 c.args.readers.now c.args.writers.now c.remove-else-remove.result kept
    (sym c.if-remove.ensures.test) c.remove-else-remove.ensures.test

pub returns-else-remove-clause-kept : goal.returns-else-remove-clause-kept
returns-else-remove-clause-kept c = λ line kept.
    let readers = c.args.readers.now in let writers = c.args.writers.now in let flow = c.args.flow.0 in
    kept_less line flow readers writers c.remove-else-remove.new.self c.remove.new.self kept
    (set_is readers c.remove-else-remove.new.self flow false c.remove-else-remove.ensures.updates.0)
    (set_is writers c.remove.new.self flow false c.remove.ensures.updates.0)
