use Rattle.std.proofs.Common.{◌≡◌, Option, Some, slice_set, refl, sym, ap, ◌∙◌}
use Rattle.std.specs.List.{slice_get}
use Rattle.std.specs.Option.{option_copied}
use Rattle.flux_model.specs.declared.programs.Node.{Node}
use Rattle.flux_edges.specs.Sessions.{needs_by}
use Rattle.flux_edges.specs.steps.Marking.{mark_at, put_found}
use Rattle.flux_edges.proofs.sessions.put_mark.Goals as goal

pub returns : goal.returns
returns c =
    let classes = c.args.p.now.classes in
    let found : slice_get c.args.p.now.nodes c.args.number.0 ≡ Some c.in-Some.node.now = sym c.get.ensures ∙ ap option_copied c.in-Some.is in
    let needs : c.in_ok-needs.needs ≡ needs_by classes (mark_at c.args.marks.now) c.args.number.0 c.in-Some.node.now = c.in_ok-needs.ensures ∙ (rw (c.as_slice.ensures, c.as_slice-2.ensures) refl) in
    c.put.ensures ∙ ap (slice_set c.args.marks.now c.args.number.0) needs ∙ sym (ap (λ (n : Option Node). put_found classes c.args.marks.now c.args.number.0 n) found)
