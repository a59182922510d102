use Rattle.flux_types.proofs.Answered.{sources_found}
use Rattle.flux_types.proofs.typing.sources.Goals as goal

pub returns : goal.returns
returns g c =
    sources_found (g.L.Meaning.meaning c.args.library.now) c.args.decls.now c.args.named.now c.in_ok-names.names c.args.sigs.now c.as_slice-lines.result.now c.as_slice.result.now
    c.in_ok-sessions.sessions c.target_places-targets.result c.fault_or-fault.result c.fault_or.result
    c.requires.named c.in_ok-names.ensures c.requires.sigs c.as_slice-lines.ensures c.as_slice.ensures c.in_ok-sessions.ensures c.target_places-targets.ensures c.fault_or-fault.ensures c.fault_or.ensures
