use Rattle.std.proofs.Common.{◌≡◌, ◌↔◌, false, sym, subst}
use Rattle.flux_table.specs.Locks.{StandsNowhere}
use Rattle.flux_table.proofs.Sets.{stands_writing, stands_reading}
use Rattle.flux_table.proofs.lines.Line.stands.Goals as goal

pub returns-then-contains : goal.returns-then-contains
returns-then-contains c =
    subst (λ l. (c.contains.result ≡ false) ↔ StandsNowhere l c.args.flow.0) c.self.view_is
    (stands_writing c.self.inside.order c.args.flow.0 c.self.inside.readers c.self.inside.writers c.contains.result c.self.invariant
    (sym c.if-contains.ensures) c.if-contains.true)

pub returns-else-contains : goal.returns-else-contains
returns-else-contains c =
    let there = c.contains-else-contains in
    subst (λ l. (there.result ≡ false) ↔ StandsNowhere l c.args.flow.0) c.self.view_is
    (stands_reading c.self.inside.order c.args.flow.0 c.self.inside.readers c.self.inside.writers there.result c.self.invariant
    (sym c.if-contains.ensures) there.ensures)
