use Rattle.std.proofs.Common.{subst, sym}
use Rattle.flow_state.specs.Lines.{IsLineAt}
use Rattle.flow_state.proofs.Stopped.{line-is}
use Rattle.flow_state.proofs.fields.Fields.line.Goals as goal

pub returns : goal.returns
returns g c =
    subst (IsLineAt c.args.self.now.made c.args.key) (sym c.line.ensures)
    (line-is g.L.Meaning.meaning c.args.self.now c.requires c.args.key)
