use Rattle.std.proofs.Common.{◌≡◌, ◌∙◌, sym, ap, subst, List}
use Rattle.std.proofs.lemmas.Result.{IfOk-weaker}
use Rattle.flow_model.specs.declared.journals.Entry.{Entry}
use Rattle.flux_swarms.specs.Peers.{ArePeersOf}
use Rattle.flux_swarms.specs.InTheCell.{AreInTheCell}
use Rattle.flux_swarms.specs.steps.Moves.{swarm_by}
use Rattle.flux_swarms.proofs.Moves.{moves_tell}
use Rattle.flux_swarms.proofs.Cells.{are_in_the_cell}
use Rattle.flux_swarms.proofs.journal_peers.peers.Goals as goal

pub returns-clause-last : goal.returns-clause-last
returns-clause-last g c =
    let p = c.args.program.now in
    let entries = c.args.journal.now.entries in
    let hash = c.args.hash.now in
    let swarm = c.in_ok-swarm_by.field-0.items in
    let same : swarm ≡ swarm_by p hash entries =
    c.in_ok-swarm_by.ensures ∙ ap (λ (es : List Entry). swarm_by p hash es) c.as_slice.ensures in
    IfOk-weaker c.listed.result (λ peers. peers ≡ swarm) (ArePeersOf p entries hash)
    (λ peers is. subst (ArePeersOf p entries hash) (sym (is ∙ same)) (moves_tell p entries hash)) c.listed.ensures

pub returns-clause-cell : goal.returns-clause-cell
returns-clause-cell g c =
    let p = c.args.program.now in
    let entries = c.args.journal.now.entries in
    let hash = c.args.hash.now in
    let swarm = c.in_ok-swarm_by.field-0.items in
    let same : swarm ≡ swarm_by p hash entries =
    c.in_ok-swarm_by.ensures ∙ ap (λ (es : List Entry). swarm_by p hash es) c.as_slice.ensures in
    let library = g.met.L.Library in
    let meaning = g.L.Meaning.meaning c.args.library.now in
    IfOk-weaker c.listed.result (λ peers. peers ≡ swarm) (AreInTheCell meaning p entries hash)
    (λ peers is. subst (AreInTheCell meaning p entries hash) (sym (is ∙ same))
    (are_in_the_cell meaning p entries hash (library.lawful c.args.library.now))) c.listed.ensures
