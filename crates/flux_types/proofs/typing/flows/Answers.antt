use Rattle.std.proofs.Common.{◌∙◌}
use Rattle.flux_types.proofs.Answered.{flows_found}
use Rattle.flux_types.proofs.typing.flows.Goals as goal

pub returns : goal.returns
returns g c =
    c.fault.ensures ∙ flows_found (g.L.Meaning.meaning c.args.library.now) c.args.decls.now c.args.names c.args.sigs.now c.in_ok-predicates.predicates c.of-2.result
    c.requires.names c.requires.sigs c.in_ok-predicates.ensures c.of-2.ensures
