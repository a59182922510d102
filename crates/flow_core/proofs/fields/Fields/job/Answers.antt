use Rattle.std.proofs.Common.{sym, subst}
use Rattle.flow_state.specs.States.{SetupState}
use Rattle.flow_state.specs.Calls.{IsReady}
use Rattle.flow_core.proofs.Moved.{ready}
use Rattle.flow_core.proofs.fields.Fields.job.Goals as goal

pub new-requires : goal.new-requires
new-requires g c =
    subst (λ (s : SetupState g.row.L.Denot). IsReady (g.L.Meaning.meaning s.library) s.program c.args.begun.now)
    (sym c.setup-setup.ensures)
    (ready g.L.Meaning.meaning c.args.self.now c.requires.fields c.args.flow c.args.begun.now c.requires.next)
