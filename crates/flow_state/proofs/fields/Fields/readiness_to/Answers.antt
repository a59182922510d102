use Rattle.std.proofs.Common.{refl, sym, None, Some}
use Rattle.flow_state.proofs.Asked.{not-ended, asks-rightly, lowest-is, none-blocked}
use Rattle.flow_state.proofs.OnFields.{read-at, within-places}
use Rattle.flow_state.proofs.Stopped.{stop-is}
use Rattle.flow_state.proofs.fields.Fields.readiness_to.Goals as goal

pub holder-requires : goal.holder-requires
holder-requires g c =
    asks-rightly g.L.Meaning.meaning c.args.self.now c.requires.fields c.args.flow c.requires.flow _ c.requires.coming _
    _ refl c.key-key.result c.key-key.ensures

pub returns-in-None : goal.returns-in-None
returns-in-None g c = (
  sym (not-ended g.L.Meaning.meaning c.args.self.now c.requires.fields c.args.flow c.requires.flow _
      c.requires.coming (λ e. cc)),
  none-blocked g.L.Meaning.meaning c.args.self.now c.requires.fields c.args.flow c.requires.flow _ c.requires.coming _
      _ refl c.key-key.result c.key-key.ensures
      (lowest-is g.L.Meaning.meaning c.args.self.now c.requires.fields c.args.flow c.requires.flow _ c.requires.coming _ _
      refl c.key-key.result c.key-key.ensures None c.in-None.ensures),
)

pub returns-in-Some : goal.returns-in-Some
returns-in-Some g c = (
  sym (not-ended g.L.Meaning.meaning c.args.self.now c.requires.fields c.args.flow c.requires.flow _
      c.requires.coming (λ e. cc)),
  stop-is g.L.Meaning.meaning c.args.self.now c.requires.fields c.args.flow c.requires.flow _ c.requires.coming _ _
      refl c.key-key.result c.key-key.ensures
      c.in-Some.field-0.0
      (let low = lowest-is g.L.Meaning.meaning c.args.self.now c.requires.fields c.args.flow c.requires.flow _
      c.requires.coming _ _ refl c.key-key.result c.key-key.ensures (Some c.in-Some.field-0) c.in-Some.ensures
      in low.0)
      c.index-place.result.now (read-at c.args.self.now.places.items c.args.flow.0 c.index-place.result.now
      (within-places g.L.Meaning.meaning c.args.self.now c.requires.fields c.args.flow.0 c.requires.flow)
      c.index-place.ensures),
)
