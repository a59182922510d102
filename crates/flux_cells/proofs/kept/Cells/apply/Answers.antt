use Rattle.std.proofs.Common.{◌∙◌, ap, map}
use Rattle.std.proofs.lemmas.Result.{on_ok_weaker}
use Rattle.flux_cells.specs.Kept.{cells_of}
use Rattle.flux_cells.specs.Applied.{applied}
use Rattle.flux_cells.specs.steps.Settling.{keys_in, overlay}
use Rattle.flux_cells.proofs.Overlays.{keys-with_puts, keys_of_copies, over_puts, over_copies}
use Rattle.flux_cells.proofs.kept.Cells.apply.Goals as goal

pub settle-requires-clause-keys : goal.settle-requires-clause-keys
settle-requires-clause-keys c =
    ap keys_in c.in_ok-put_all.ensures ∙ keys-with_puts c.args.p.now c.in_ok-touched.touched.items c.as_slice-2.result.now
    ∙ ap keys_in c.in_ok-touched.ensures ∙ keys_of_copies (cells_of c.self.inside.cells.entries) c.args.keys.now

pub returns-clause-ok : goal.returns-clause-ok
returns-clause-ok c =
    let old = cells_of c.self.inside.cells.entries in
    let p = c.args.p.now in
    let keys = c.args.keys.now in
    on_ok_weaker c.settle.result (λ settled.
    settled ∙ ap (λ t. overlay t old) c.in_ok-put_all.ensures ∙ over_puts p c.in_ok-touched.touched.items old c.as_slice-2.result.now
    ∙ ap (λ t. applied p (keys_in t) (overlay t old) c.as_slice-2.result.now) c.in_ok-touched.ensures
    ∙ ap (λ ks. applied p ks (overlay (map (λ key. (key, old key)) keys) old) c.as_slice-2.result.now) (keys_of_copies old keys)
    ∙ ap (λ under. applied p keys under c.as_slice-2.result.now) (over_copies old keys)
    ∙ ap (applied p keys old) c.as_slice-2.ensures
    ∙ ap (λ kept. applied p keys (cells_of kept) c.args.puts.now) c.self.view_is) c.settle.ensures.ok
