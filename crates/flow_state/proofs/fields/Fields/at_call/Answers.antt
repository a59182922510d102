use Rattle.std.proofs.Common.{refl}
use Rattle.std.proofs.lemmas.Bool.{false≢true}
use Rattle.flux_plan.specs.Machine.{values_at}
use Rattle.flow_state.proofs.Asked.{call-is_next, not-at_call}
use Rattle.flow_state.proofs.fields.Fields.at_call.Goals as goal

pub returns-in-Call : goal.returns-in-Call
returns-in-Call g c = (
  λ _. (
    c.in-Call.field-0,
    values_at c.in-Call.ensures.place.local,
    call-is_next g.L.Meaning.meaning c.args.self.now c.requires.fields c.args.flow c.requires.flow _ c.in-Call.ensures
        c.in-Call.field-0 refl,
  ),
  λ _. refl,
)

pub returns-in_default : goal.returns-in_default
returns-in_default g c = (
  λ e. absurd (false≢true e),
  λ at. absurd (not-at_call g.L.Meaning.meaning c.args.self.now c.requires.fields
      c.args.flow c.requires.flow c.next.result c.next.ensures c.in_default.not-Call at),
)
