use Rattle.std.proofs.Common.{nat_eq, rules, tests}
use Rattle.std.specs.List.{list_any}
use Rattle.std.proofs.lemmas.Iterator.{YieldsList-from_slice}
use Rattle.std.proofs.lemmas.Iterator.Search.{all_from_yields_List}
use Rattle.flux_model.proofs.visits.Visits.has_all.Goals as goal

pub returns : goal.returns
returns c = all_from_yields_List (λ node. list_any (nat_eq node.0) c.args.self.now) _ _ _ c.all.ensures.ran (YieldsList-from_slice c.args.nodes.now cc) (λ x b q k. search (rules, tests))
