use Rattle.std.proofs.Common.{ℕ, List, [], ◌+◌, ◌∙◌, sym, subst}
use Rattle.nodes_cache.proofs.LeavingLemmas.{IsFoundSoFar, found_same, found_more, all_found, short_found}
use Rattle.nodes_cache.proofs.entries.leaving.Goals as goal
use Rattle.std.specs.Borrow.{Bor}
use Rattle.nodes_cache.proofs.entries.leaving.Goals.{then-branch+in_ok-less_used, else-branch}

-- what an index past the end would read
abbrev none : Bor (List ℕ)
none = record { ref_ptr = (0, 0); now = [] }

pub returns-clause-same : goal.returns-clause-same
returns-clause-same c = all_found c.args.cell.now c.args.names.now c.loop-name.name-index c.loop-name.least c.loop-name.invariant c.requires c.loop-name-test.false

pub returns-clause-short : goal.returns-clause-short
returns-clause-short c = short_found c.args.cell.now c.loop-name.least (all_found c.args.cell.now c.args.names.now c.loop-name.name-index c.loop-name.least c.loop-name.invariant c.requires c.loop-name-test.false)

pub loop-name-preserved : goal.loop-name-preserved
loop-name-preserved c = elim c.if-branch.branch [
  | then-branch+in_ok-less_used w ↦
      subst (IsFoundSoFar c.args.cell.now c.args.names.now (c.loop-name.name-index + 1)) (sym w.least-is)
      (found_more c.args.cell.now c.args.names.now c.loop-name.name-index none c.loop-name.least w.in_ok-less_used.field-0 c.loop-name.invariant c.loop-name-test.true (sym c.in_ok-is_free.ensures ∙ w.if-branch.true) w.in_ok-less_used.ensures)
  | else-branch w ↦
      subst (IsFoundSoFar c.args.cell.now c.args.names.now (c.loop-name.name-index + 1)) (sym w.least-is)
      (found_same c.args.cell.now c.args.names.now c.loop-name.name-index none c.loop-name.least c.loop-name.invariant c.loop-name-test.true (sym c.in_ok-is_free.ensures ∙ w.if-branch.false))
]
