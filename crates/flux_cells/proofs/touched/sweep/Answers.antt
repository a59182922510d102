use Rattle.std.proofs.Common.{◌+◌, sym, subst, refl, None}
use Rattle.std.proofs.lemmas.Bool.{false≢true}
use Rattle.flux_cells.proofs.Keys.{changed_is}
use Rattle.flux_cells.proofs.Settling.{IsSwept, swept_past, swept_out}
use Rattle.flux_cells.proofs.touched.sweep.Goals as goal
use Rattle.flux_cells.proofs.touched.sweep.Goals.{then-has_empty, else-has_empty}

pub loop-key-preserved : goal.loop-key-preserved
loop-key-preserved c =
    let old = c.args.cells.now.entries in let now = c.loop-key.cells.entries in let keys = c.args.keys.now in let place = c.loop-key.key-index in
    elim c.if-has_empty.branch [
      | then-has_empty w ↦
          subst (λ m. IsSwept old m.entries keys (place + 1)) (sym w.cells-is)
          (swept_out old now w.remove.new.self.entries keys place _ c.loop-key.invariant c.loop-key-test.true (w.if-has_empty.ensures.0 refl) (changed_is now w.remove.new.self.entries _ None w.remove.ensures.updates.0))
      | else-has_empty w ↦
          subst (λ m. IsSwept old m.entries keys (place + 1)) (sym w.cells-is)
          (swept_past old now keys place _ c.loop-key.invariant c.loop-key-test.true (λ empty. false≢true (w.if-has_empty.ensures.1 empty)))
    ]
