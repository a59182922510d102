use Rattle.std.proofs.Common.{sym, subst}
use Rattle.flux_values.specs.declared.answers.Mode.TheVariants.{Reader, Writer}
use Rattle.flux_table.specs.Blockers.{StandsAgainst, IsLowestOf}
use Rattle.flux_table.proofs.Sets.{lowest_writer, lowest_of_two}
use Rattle.flux_table.proofs.lines.Line.lowest_of_all.Goals as goal

pub returns-in-Reader : goal.returns-in-Reader
returns-in-Reader c =
    let lowest = c.lowest_of.result in
    subst (λ mode. IsLowestOf (λ other. StandsAgainst c.args.self.now other mode) lowest) (sym c.in-Reader.is)
    (subst (λ l. IsLowestOf (λ other. StandsAgainst l other Reader) lowest) c.self.view_is
    (lowest_writer c.self.inside.order c.self.inside.writers lowest c.self.invariant.writers c.lowest_of.ensures))

pub returns-in-Writer : goal.returns-in-Writer
returns-in-Writer c =
    let lowest = c.lower.result in
    subst (λ mode. IsLowestOf (λ other. StandsAgainst c.args.self.now other mode) lowest) (sym c.in-Writer.is)
    (subst (λ l. IsLowestOf (λ other. StandsAgainst l other Writer) lowest) c.self.view_is
    (lowest_of_two c.self.inside.order c.self.inside.readers c.self.inside.writers c.lowest_of-in-Writer.result c.lowest_of-in-Writer-2.result lowest
    c.self.invariant c.lowest_of-in-Writer.ensures c.lowest_of-in-Writer-2.ensures c.lower.ensures))
