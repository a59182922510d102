use Rattle.std.proofs.Common.{◌∙◌, length, sym, ap}
use Rattle.std.proofs.lemmas.Result.{err_from_is_err_and}
use Rattle.std.proofs.lemmas.Grind.{merely}
use Rattle.flux_model.specs.declared.named.Named.{Named}
use Rattle.flux_edges.proofs.Texts.{sources_many}
use Rattle.flux_check.proofs.Judged.{sites_many, sigs_refused, handlers_refused, sources_refused, constraints_refused, sessions_refused, sizes_refused, checked_is}
use Rattle.flux_check.proofs.checking.judge.Goals as goal

pub ordered-requires-clause-sites : goal.ordered-requires-clause-sites
ordered-requires-clause-sites g c =
    let named = c.in_ok-named.ensures.named in
    ap (λ (n : Named). length n.sites.nodes) named.is ∙ sites_many c.args.decls.now ∙ sym (ap (λ (n : Named). length n.program.nodes) named.is)

pub session_edges-requires-clause-sites : goal.session_edges-requires-clause-sites
session_edges-requires-clause-sites g c =
    let named = c.in_ok-named.ensures.named in
    ap (λ (n : Named). length n.sites.sources) named.is ∙ sources_many c.args.decls.now ∙ sym (ap (λ (n : Named). length n.program.sources) named.is)

pub returns-in_err-sigs-clause-fault : goal.returns-in_err-sigs-clause-fault
returns-in_err-sigs-clause-fault g c =
    let passed = err_from_is_err_and c.from_residual-in_err-sigs.result c.from_residual-in_err-sigs.ensures.1 in
    rw (passed.1, passed.2) (sigs_refused (g.L.Meaning.meaning c.args.library.now) c.args.decls.now c.in_ok-named.named c.in_ok-named.ensures.named c.in_ok-order.ensures.acyclic c.in_err-sigs.field-0.0 c.in_err-sigs.ensures.fault)

pub returns-in_err-handler_types-clause-fault : goal.returns-in_err-handler_types-clause-fault
returns-in_err-handler_types-clause-fault g c =
    let passed = err_from_is_err_and c.from_residual-in_err-handler_types.result c.from_residual-in_err-handler_types.ensures.1 in
    rw (passed.1, passed.2) (handlers_refused (g.L.Meaning.meaning c.args.library.now) c.args.decls.now c.in_ok-named.named c.in_ok-named.ensures.named c.in_ok-order.ensures.acyclic c.in_ok-sigs.sigs.nodes c.in_ok-sigs.ensures.typed c.in_err-handler_types.field-0.0 c.in_err-handler_types.ensures.fault)

pub returns-in_err-source_types-clause-fault : goal.returns-in_err-source_types-clause-fault
returns-in_err-source_types-clause-fault g c =
    let passed = err_from_is_err_and c.from_residual-in_err-source_types.result c.from_residual-in_err-source_types.ensures.1 in
    rw (passed.1, passed.2) (sources_refused (g.L.Meaning.meaning c.args.library.now) c.args.decls.now c.in_ok-named.named c.in_ok-named.ensures.named c.in_ok-order.ensures.acyclic c.in_ok-sigs.sigs.nodes c.in_ok-sigs.ensures.typed c.in_ok-handler_types.ensures.fits c.in_err-source_types.field-0.0 c.in_err-source_types.ensures.fault)

pub returns-in_err-constraints-clause-fault : goal.returns-in_err-constraints-clause-fault
returns-in_err-constraints-clause-fault g c =
    let passed = err_from_is_err_and c.from_residual-in_err-constraints.result c.from_residual-in_err-constraints.ensures.1 in
    rw (passed.1, passed.2) (constraints_refused (g.L.Meaning.meaning c.args.library.now) c.args.decls.now c.in_ok-named.named c.in_ok-named.ensures.named c.in_ok-order.ensures.acyclic c.in_ok-sigs.sigs.nodes c.in_ok-sigs.ensures.typed c.in_ok-handler_types.ensures.fits c.in_ok-source_types.ensures.fits c.in_err-constraints.field-0.0 c.in_err-constraints.ensures.fault)

pub returns-in_err-session_edges-clause-fault : goal.returns-in_err-session_edges-clause-fault
returns-in_err-session_edges-clause-fault g c =
    let passed = err_from_is_err_and c.from_residual-in_err-session_edges.result c.from_residual-in_err-session_edges.ensures.1 in
    rw (passed.1, passed.2) (sessions_refused (g.L.Meaning.meaning c.args.library.now) c.args.decls.now c.in_ok-named.named c.in_ok-named.ensures.named c.in_ok-order.ensures.acyclic c.in_ok-sigs.sigs.nodes c.in_ok-sigs.ensures.typed c.in_ok-handler_types.ensures.fits c.in_ok-source_types.ensures.fits c.in_ok-constraints.ensures.fits c.in_err-session_edges.field-0.0 c.in_err-session_edges.ensures.fault)

pub returns-in_err-sizes-clause-fault : goal.returns-in_err-sizes-clause-fault
returns-in_err-sizes-clause-fault g c =
    let passed = err_from_is_err_and c.from_residual-in_err-sizes.result c.from_residual-in_err-sizes.ensures.1 in
    rw (passed.1, passed.2) (sizes_refused (g.L.Meaning.meaning c.args.library.now) c.args.decls.now c.in_ok-named.named c.in_ok-named.ensures.named c.in_ok-order.ensures.acyclic c.in_ok-sigs.sigs.nodes c.in_ok-sigs.ensures.typed c.in_ok-handler_types.ensures.fits c.in_ok-source_types.ensures.fits c.in_ok-constraints.ensures.fits c.in_ok-session_edges.ensures.fits c.in_ok-sets.sets.nodes c.in_ok-sets.ensures c.in_err-sizes.field-0.0 c.in_err-sizes.ensures.fault)

pub invariant_of-result : goal.invariant_of-result
invariant_of-result g c =
    let is = checked_is (g.L.Meaning.meaning c.args.library.now) c.args.decls.now c.in_ok-named.named c.in_ok-named.ensures.named c.in_ok-order.ensures.acyclic c.in_ok-sigs.sigs.nodes c.in_ok-sigs.ensures.typed c.in_ok-handler_types.ensures.fits c.in_ok-source_types.ensures.fits c.in_ok-constraints.ensures.fits c.in_ok-session_edges.ensures.fits c.in_ok-sets.sets.nodes c.in_ok-sets.ensures c.in_ok-order.order.nodes c.in_ok-sizes.sizes c.in_ok-order.ensures.ordered c.in_ok-sizes.ensures.sizes c.in_ok-session_edges.ensures.served c.requires.declared in
    record { keeps = merely is.keeps }

pub returns-clause-checked : goal.returns-clause-checked
returns-clause-checked g c = checked_is (g.L.Meaning.meaning c.args.library.now) c.args.decls.now c.in_ok-named.named c.in_ok-named.ensures.named c.in_ok-order.ensures.acyclic c.in_ok-sigs.sigs.nodes c.in_ok-sigs.ensures.typed c.in_ok-handler_types.ensures.fits c.in_ok-source_types.ensures.fits c.in_ok-constraints.ensures.fits c.in_ok-session_edges.ensures.fits c.in_ok-sets.sets.nodes c.in_ok-sets.ensures c.in_ok-order.order.nodes c.in_ok-sizes.sizes c.in_ok-order.ensures.ordered c.in_ok-sizes.ensures.sizes c.in_ok-session_edges.ensures.served c.requires.declared
