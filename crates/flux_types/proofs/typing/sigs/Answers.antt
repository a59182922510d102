use Rattle.std.proofs.Common.{sym, ap, ◌∙◌}
use Rattle.flux_syntax.specs.ProgramOfText.{named_of}
use Rattle.flux_types.specs.Rows.{sig_rows}
use Rattle.flux_types.proofs.Answered.{typed_is, least_is}
use Rattle.flux_types.proofs.typing.sigs.Goals as goal

pub typed-requires-clause-named : goal.typed-requires-clause-named
typed-requires-clause-named g c = c.requires.named ∙ ap named_of (sym c.as_slice.ensures)

pub returns-in-None-clause-typed : goal.returns-in-None-clause-typed
returns-in-None-clause-typed g c =
    typed_is (g.L.Meaning.meaning c.args.library.now) c.args.decls.now c.as_slice.result.now c.in_ok-nodes.nodes c.in_ok-nodes.fault
    c.as_slice.ensures c.in_ok-nodes.ensures c.in-None.is

pub returns-in-Some-clause-fault : goal.returns-in-Some-clause-fault
returns-in-Some-clause-fault g c =
    least_is (sig_rows (g.L.Meaning.meaning c.args.library.now)) c.as_slice.result.now c.args.decls.now c.in_ok-nodes.fault c.in-Some.kind c.in-Some.at c.fault_at.result
    c.as_slice.ensures (c.in_ok-nodes.ensures).1 c.in-Some.is c.fault_at.ensures
