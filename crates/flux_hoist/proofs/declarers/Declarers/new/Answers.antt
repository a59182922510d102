use Rattle.std.proofs.Common.{sym, subst}
use Rattle.flux_hoist.specs.steps.Declaring.{IsClassCount}
use Rattle.flux_hoist.proofs.Declared.{known_all}
use Rattle.flux_hoist.proofs.declarers.Declarers.new.Goals as goal

pub returns-clause-known : goal.returns-clause-known
returns-clause-known c =
    known_all c.args.nodes.now c.args.sets.now c.class_count-count.result _ _ _ c.in_ok-own.ensures c.class_count-count.ensures.count.all c.in_ok-readers.ensures.tables c.in_ok-writers.ensures.tables

pub returns-clause-tables : goal.returns-clause-tables
returns-clause-tables c = record {
  readers = subst (IsClassCount c.args.sets.now) (sym c.in_ok-readers.ensures.many) c.class_count-count.ensures.count;
  writers = subst (IsClassCount c.args.sets.now) (sym c.in_ok-writers.ensures.many) c.class_count-count.ensures.count;
}
