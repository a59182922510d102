use Rattle.std.proofs.Common.{◌≡◌, ◌++◌, [], ◌∙◌, ap, sym, subst, refl, take, ◌-◌, IsSome, Some}
use Rattle.flux_cells.specs.Kept.{cells_of}
use Rattle.flux_cells.specs.steps.Settling.{overlay}
use Rattle.flux_cells.proofs.Keys.{found_is, changed_is}
use Rattle.flux_cells.proofs.CellLemmas.{none_is_not}
use Rattle.flux_cells.proofs.Settling.{placed_more, placed_there}
use Rattle.flux_cells.proofs.touched.place.Goals as goal

pub loop-key-preserved-in-Some-get_mut : goal.loop-key-preserved-in-Some-get_mut
loop-key-preserved-in-Some-get_mut c =
    placed_more c.args.cells.now.entries c.loop-key.cells.entries (c.get_mut.follows.lender c.in-Some.copy).entries c.args.touched.items c.loop-key.touched.items c.pop.new.self.items
    c.in-Some.key c.in-Some.copy c.loop-key.invariant c.in-Some.ensures.items
    (changed_is c.loop-key.cells.entries _ c.in-Some.key (Some c.in-Some.copy) ((c.get_mut.follows.holds c.in-Some.copy).3 (subst IsSome c.in-Some-get_mut.ensures.value refl)).0)

pub loop-key-preserved : goal.loop-key-preserved
loop-key-preserved c =
    let there = placed_there c.args.cells.now.entries c.loop-key.cells.entries c.args.touched.items c.loop-key.touched.items c.pop.new.self.items c.in-Some.key c.in-Some.copy c.loop-key.invariant c.in-Some.ensures.items in
    none_is_not _ there (sym (c.in_default-get_mut.ensures.value ∙ found_is c.loop-key.cells.entries c.in-Some.key))

pub returns-clause-placed : goal.returns-clause-placed
returns-clause-placed c =
    let last = c.in_default.ensures in
    let none : c.loop-key.touched.items ≡ [] =
    last.items ∙ ap (λ items. items ++ []) (last.rest ∙ ap (λ n. take (n - 1) c.loop-key.touched.items) last.cases.0) in
    ap (λ rest. overlay rest (cells_of c.loop-key.cells.entries)) (sym none) ∙ c.loop-key.invariant.over
