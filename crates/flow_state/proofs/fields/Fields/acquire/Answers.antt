use Rattle.std.proofs.Common.{◌∙◌, ap, sym}
use Rattle.std.proofs.lemmas.Option.{get_or_from_slice_get}
use Rattle.flow_state.specs.declared.places.Place.{Place}
use Rattle.flow_state.proofs.fields.Fields.acquire.Goals as goal

pub acquire_at_once-requires-clause-idle : goal.acquire_at_once-requires-clause-idle
acquire_at_once-requires-clause-idle g c place at =
    ap (λ (p : Place). p.stands) (sym (c.index.ensures ∙ get_or_from_slice_get c.args.self.now.places.items
    c.args.flow.0 place c.index.result.now at)) ∙ c.if-index.false
