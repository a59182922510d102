use Rattle.std.proofs.Common.{sym, subst}
use Rattle.std.specs.Prelude.{IfOk}
use Rattle.flow_state.specs.States.{SetupState}
use Rattle.flow_state.specs.Calls.{IsReady, IsAnswerOf}
use Rattle.flow_core.proofs.fields.Fields.answer_to.Goals as goal

pub answer_of-requires : goal.answer_of-requires
answer_of-requires g c =
    rw (c.deref-2.ensures, c.deref.ensures)
    (subst (λ (s : SetupState g.row.L.Denot). IsReady (g.L.Meaning.meaning s.library) s.program c.args.inputs.now)
    (sym c.setup-setup.ensures) c.requires)

pub returns : goal.returns
returns g c =
    let is = rw (c.deref-2.ensures, c.deref.ensures) at c.answer_of.ensures in
    subst (λ (s : SetupState g.row.L.Denot). IfOk c.answer_of.result
    (IsAnswerOf (g.L.Meaning.meaning s.library) s.program c.args.inputs.now)) c.setup-setup.ensures is
