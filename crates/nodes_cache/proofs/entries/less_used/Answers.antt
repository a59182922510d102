use Rattle.std.proofs.Common.{◌∙◌, sym, subst}
use Rattle.nodes_cache.specs.steps.Leaving.{IsFound}
use Rattle.nodes_cache.proofs.LeavingLemmas.{keeps_least, takes_least, first_least}
use Rattle.nodes_cache.proofs.entries.less_used.Goals as goal

pub returns-then-branch : goal.returns-then-branch
returns-then-branch c names so =
    keeps_least c.args.cell.now names c.in-Some.first.now c.args.name.now (subst (IsFound c.args.cell.now names) c.in-Some.is so) (sym c.in_ok-is_no_more_used-in-Some.ensures ∙ c.if-branch.true)

pub returns-else-branch : goal.returns-else-branch
returns-else-branch c names so =
    takes_least c.args.cell.now names c.in-Some.first.now c.args.name.now (subst (IsFound c.args.cell.now names) c.in-Some.is so) (sym c.in_ok-is_no_more_used-in-Some.ensures ∙ c.if-branch.false)

pub returns-in-None : goal.returns-in-None
returns-in-None c names so = first_least c.args.cell.now names c.args.name.now (subst (IsFound c.args.cell.now names) c.in-None.is so)
