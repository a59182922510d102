use Rattle.std.proofs.Common.{sym, subst}
use Rattle.flux_table.specs.Locks.{StandsNowhere}
use Rattle.flux_table.proofs.Sets.{kept_reader, kept_writer}
use Rattle.flux_table.proofs.lines.Line.push.Goals as goal

pub push_with-requires-clause-nowhere : goal.push_with-requires-clause-nowhere
push_with-requires-clause-nowhere c = subst (λ l. StandsNowhere l c.args.waiter.flow.0) (sym c.self.view_is) c.requires

pub push_with-requires-in-Writer-clause-nowhere : goal.push_with-requires-in-Writer-clause-nowhere
push_with-requires-in-Writer-clause-nowhere c = subst (λ l. StandsNowhere l c.args.waiter.flow.0) (sym c.self.view_is) c.requires

pub invariant_of-self : goal.invariant_of-self
invariant_of-self c =
    let pushed = c.push_with.ensures in
    kept_reader c.self.inside.order c.push_with.new.line c.args.waiter c.push_with.result c.push_with.new.flows c.self.inside.writers c.in-Reader.is
    (subst (λ l. StandsNowhere l c.args.waiter.flow.0) (sym c.self.view_is) c.requires) pushed.ok pushed.err
    c.self.invariant.once pushed.flows c.self.invariant.writers

pub invariant_of-self-in-Writer : goal.invariant_of-self-in-Writer
invariant_of-self-in-Writer c =
    let pushed = c.push_with-in-Writer.ensures in
    kept_writer c.self.inside.order c.push_with-in-Writer.new.line c.args.waiter c.push_with-in-Writer.result c.self.inside.readers c.push_with-in-Writer.new.flows c.in-Writer.is
    (subst (λ l. StandsNowhere l c.args.waiter.flow.0) (sym c.self.view_is) c.requires) pushed.ok pushed.err
    c.self.invariant.once pushed.flows c.self.invariant.readers
