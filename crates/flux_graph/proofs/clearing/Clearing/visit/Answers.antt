use Rattle.std.proofs.Common.{◌≡◌, ◌∙◌, eqb, true, sym, subst}
use Rattle.std.specs.List.{list_any, list_all}
use Rattle.flux_model.specs.Leading.{leads_in}
use Rattle.flux_graph.specs.steps.Clearing.{IsClearing}
use Rattle.flux_model.proofs.Visiting.{all_known}
use Rattle.flux_graph.proofs.ClearingLemmas.{cleared_more, on_ok}
use Rattle.flux_graph.proofs.clearing.Clearing.visit.Goals as goal
use Rattle.flux_graph.proofs.clearing.Clearing.visit.Goals.{then-has_all+in_ok-add, else-has_all}

pub returns : goal.returns
returns c = λ was.
    let nodes = c.args.nodes.now in let node = c.args.node.0 in let v = c.args.self.now.visited in
    let now : IsClearing nodes c.if-has_all.self =
    elim c.if-has_all.branch [
      | then-has_all+in_ok-add w ↦
          let led : c.as_slice.result.now ≡ leads_in nodes node = c.as_slice.ensures ∙ c.in_ok-leads_in.ensures in
          let all : list_all (λ n. list_any (eqb n.0) v) (leads_in nodes node) ≡ true = subst (λ ns. list_all (λ n. list_any (eqb n.0) v) ns ≡ true) led (sym c.has_all.ensures ∙ w.if-has_all.true) in
          rw (w.self-is, w.in_ok-add.ensures) (record {
            closed = was.closed;
            cleared = cleared_more nodes v c.args.self.now.cleared node was.closed (sym c.has.ensures ∙ c.if-has.false) (all_known v (leads_in nodes node) all) was.cleared;
          })
      | else-has_all w ↦ rw w.self-is was
    ] in
    on_ok c.visit_onward.result (c.visit_onward.ensures.closed now.closed) (λ closed. record { closed = closed; cleared = now.cleared })
