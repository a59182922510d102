use Rattle.std.proofs.Common.{◌≡◌, ◌∙◌, ap, subst, set, Some, None}
use Rattle.std.specs.List.{position}
use Rattle.std.proofs.lemmas.Result.{on_ok_weaker}
use Rattle.flux_values.specs.Cells.{changed}
use Rattle.flux_cells.proofs.Overlays.{is_meant, put_there, put_nowhere}
use Rattle.flux_cells.proofs.touched.put_in.Goals as goal

pub returns-in_default : goal.returns-in_default
returns-in_default c =
    let nowhere = subst (λ l. None ≡ position (is_meant c.args.p.now c.as_bytes.result.now) l) c.deref.ensures.value c.in_default.ensures in
    put_nowhere c.args.p.now c.args.touched.now.items c.args.put.now (subst (λ name. None ≡ position (is_meant c.args.p.now name) c.args.touched.now.items) c.as_bytes.ensures.same nowhere)

pub returns : goal.returns
returns c =
    let there = subst (λ l. Some c.in-Some.place ≡ position (is_meant c.args.p.now c.as_bytes.result.now) l) c.deref.ensures.value c.in-Some.ensures in
    let place = subst (λ name. Some c.in-Some.place ≡ position (is_meant c.args.p.now name) c.args.touched.now.items) c.as_bytes.ensures.same there in
    on_ok_weaker c.put_on.result (λ done.
    ap (λ cell. set c.args.touched.now.items c.in-Some.place (c.index_mut.result.now.0, cell)) done
    ∙ ap (λ e. set c.args.touched.now.items c.in-Some.place (e.0, changed e.1 c.args.put.now.name c.args.put.now.value)) c.index_mut.ensures.value
    ∙ put_there c.args.p.now c.args.touched.now.items c.args.put.now c.in-Some.place c.index_mut.result.now place) c.put_on.ensures.ok
