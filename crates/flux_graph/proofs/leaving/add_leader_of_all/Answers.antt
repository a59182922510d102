use Rattle.std.proofs.Common.{List, take, get_or, sym, subst, arith}
use Rattle.std.proofs.lemmas.List.{take_more}
use Rattle.flux_model.specs.declared.programs.NodeNo.{NodeNo}
use Rattle.flux_graph.specs.steps.Leaders.{LeadsToAll, with_leader}
use Rattle.flux_graph.proofs.LeaderLists.{leads_next}
use Rattle.flux_graph.proofs.leaving.add_leader_of_all.Goals as goal

pub loop-number-preserved : goal.loop-number-preserved
loop-number-preserved c =
    let led = c.args.led.now in
    let i = c.loop-number.number-index in
    let none : NodeNo = record { 0 = 0 } in
    let before = c.args.leaders.now.items in
    let mid = c.loop-number.leaders.items in
    let after : List (List NodeNo) = with_leader mid (get_or led i none).0 c.args.node in
    rw c.in_ok-add_leader.ensures
    (subst (λ (l : List NodeNo). LeadsToAll c.args.node l before after) (sym (take_more led i none (omega arith)))
    (leads_next c.args.node (get_or led i none) (take i led) before mid c.loop-number.invariant))
