use Rattle.std.proofs.Common.{refl, ◌∙◌}
use Rattle.std.specs.Arc.{arc_value}
use Rattle.flow_state.specs.steps.Cells.{classes_read}
use Rattle.flow_state.proofs.Opened.{may-sources, opened-given, opened-running}
use Rattle.flow_state.proofs.fields.Fields.new.Goals as goal

pub places-requires : goal.places-requires
places-requires g c =
    may-sources (g.L.Meaning.meaning (arc_value c.args.setup.library)) (arc_value c.args.setup.program)
    (arc_value c.args.setup.plans) c.args.setup.items c.requires

pub returns-clause-fields : goal.returns-clause-fields
returns-clause-fields g c =
    let library = g.met.L.Library in
    opened-running g.L.Meaning.meaning _
    (opened-given (g.L.Meaning.meaning (arc_value c.args.setup.library)) _ _ refl
    (library.lawful (arc_value c.args.setup.library)) c.requires)
    c.new-2.ensures c.in_ok-places.ensures c.new.ensures c.in_ok-cells.ensures c.len-live.ensures
    (c.in_ok-reads.ensures ∙ (λ i. classes_read (g.L.Meaning.meaning (c.deref.ensures i)) (c.deref-2.ensures i)))
