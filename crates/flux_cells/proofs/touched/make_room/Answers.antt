use Rattle.std.proofs.Common.{◌+◌, ◌∙◌, sym, subst, IsSome, Some}
use Rattle.flux_cells.proofs.CellLemmas.{none_from_is_some}
use Rattle.flux_cells.proofs.Keys.{IsChanged, found_is, changed_is}
use Rattle.flux_cells.proofs.Settling.{HasRoom, room_there, room_more}
use Rattle.flux_cells.proofs.touched.make_room.Goals as goal
use Rattle.flux_cells.proofs.touched.make_room.Goals.{then-not-contains_key+in_ok-insert, else-not-contains_key}

pub loop-key-preserved : goal.loop-key-preserved
loop-key-preserved c =
    let old = c.args.cells.now.entries in let now = c.loop-key.cells.entries in let keys = c.args.keys.now in let place = c.loop-key.key-index in
    elim c.if-not-contains_key.branch [
      | then-not-contains_key+in_ok-insert w ↦
          let none = sym (found_is now _) ∙ none_from_is_some _ w.if-not-contains_key.ensures in
          let changed = changed_is now w.insert.new.self.entries _ (Some w.new.result) w.in_ok-insert.ensures.updates.0 in
          subst (λ m. HasRoom old m.entries keys (place + 1)) (sym w.cells-is)
          (room_more old now w.insert.new.self.entries keys place _ c.loop-key.invariant c.loop-key-test.true none (subst (λ cell. IsChanged now w.insert.new.self.entries _ (Some cell)) w.new.ensures changed))
      | else-not-contains_key w ↦
          let there = subst IsSome (found_is now _) (sym w.if-not-contains_key.ensures) in
          subst (λ m. HasRoom old m.entries keys (place + 1)) (sym w.cells-is) (room_there old now keys place _ c.loop-key.invariant c.loop-key-test.true there)
    ]
