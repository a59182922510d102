use Rattle.std.proofs.Common.{List, Option, None, map, ap, ◌∙◌}
use Rattle.std.specs.Arc.{arc_value}
use Rattle.flux_model.specs.declared.items.Item.{Item}
use Rattle.flow_state.specs.declared.inputs.Inputs.{Inputs}
use Rattle.flow_core.specs.States.{opened}
use Rattle.flow_core.proofs.Moved.{opened-fields}
use Rattle.flow_core.proofs.fields.Fields.new.Goals as goal

pub returns-clause-fields : goal.returns-clause-fields
returns-clause-fields g c =
    let library = g.met.L.Library in
    let setup = c.args.setup in
    let begun = c.in_ok-begun.ensures
    ∙ ap (λ (items : List Item). map {B = Option Inputs} (λ (item : Item). None) items) c.as_slice.ensures in
    opened-fields g.L.Meaning.meaning _ (arc_value setup.program) (arc_value setup.plans) setup.items setup.opening
    (arc_value setup.library) (library.lawful (arc_value setup.library)) c.requires
    (λ i. record (opened (arc_value setup.program) (arc_value setup.plans) setup.items setup.opening
    (arc_value setup.library)) {
      setup = let state = c.in_ok-state.ensures i in state.setup;
      entries = let state = c.in_ok-state.ensures i in state.entries;
      begun = begun i;
    })
    c.new-2.ensures
