use Rattle.std.proofs.Common.{ℕ, List, [], ◌++◌, take, cond, eqb, codes, ap, sym, ◌∙◌, append_assoc}
use Rattle.flux_faults.specs.Faults.{arrows}
use Rattle.flux_faults.proofs.Arrows.{arrows_next}
use Rattle.flux_faults.proofs.lines.append_arrows.Goals as goal

pub loop-place-preserved : goal.loop-place-preserved
loop-place-preserved c =
    let names = c.args.names.now in
    let i = c.loop-place.place in
    let name = c.index-names-place.result in
    c.in_ok-append_next.ensures
    ∙ ap (λ (o : List ℕ). o ++ (cond (eqb i 0) [] (codes " -> ") ++ name)) c.loop-place.invariant
    ∙ append_assoc c.args.line.now (arrows (take i names)) (cond (eqb i 0) [] (codes " -> ") ++ name)
    ∙ ap (λ (t : List ℕ). c.args.line.now ++ t) (sym (arrows_next names i _ name c.loop-place-test.true c.index-names-place.is))
