use Rattle.std.proofs.Common.{◌≡◌, ◌∙◌, ℕ, suc, ◌+◌, ◌≤◌, List, ◌++◌, length, take, drop, remove, sym, ap, arith}
use Rattle.std.proofs.lemmas.List.{length-take, drop-append-le, drop-take, drop-drop}
use Rattle.flux_table.specs.declared.locks.Waiter.{Waiter}
use Rattle.flux_table.proofs.queues.Queue.remove.Goals as goal
use Rattle.flux_table.proofs.queues.Queue.remove.Goals.{then-place-eq0, else-place-eq0}

-- where one more is gone, the first that was left is
one_gone : (all left : List Waiter) (gone : ℕ) → drop gone all ≡ left → drop (gone + 1) all ≡ remove left 0
one_gone all left gone is = sym (drop-drop 1 gone all) ∙ ap (drop 1) is

-- a place among those that are left is that much later with those that are gone
drop-remove : (all : List Waiter) (gone place : ℕ) → gone ≤ length all → drop gone (remove all (gone + place)) ≡ remove (drop gone all) place
drop-remove all gone place some =
    let behind : suc (gone + place) ≡ gone + suc place = omega arith in
    drop-append-le gone (take (gone + place) all) (drop (suc (gone + place)) all) (omega (arith, length-take (gone + place) all))
    ∙ ap (λ front. front ++ drop (suc (gone + place)) all) (drop-take gone place all)
    ∙ ap (λ rest. take place (drop gone all) ++ rest) (ap (λ k. drop k all) behind ∙ sym (drop-drop (suc place) gone all))

pub returns : goal.returns
returns c =
    let all = c.self.inside.all.items in
    let gone = c.self.inside.gone in
    let some : gone ≤ length all = omega (arith, c.self.invariant) in
    c.close_up.ensures.left ∙ elim c.if-place-eq0.branch [
      | then-place-eq0 w ↦
          let first : c.args.place ≡ 0 = search in
          rw w.self-inside-is (one_gone all c.args.self.now gone c.self.view_is ∙ ap (remove c.args.self.now) (sym first))
      | else-place-eq0 w ↦
          rw w.self-inside-is (ap (drop gone) w.remove.ensures.items ∙ drop-remove all gone c.args.place some ∙ ap (λ left. remove left c.args.place) c.self.view_is)
    ]
