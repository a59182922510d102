use Rattle.std.proofs.Common.{List, sym, ap, subst, ◌∙◌}
use Rattle.flux_model.specs.declared.signatures.NodeSig.{NodeSig}
use Rattle.flux_syntax.specs.declared.declarations.Decl.{Decl}
use Rattle.flux_syntax.specs.ProgramOfText.{named_of}
use Rattle.flux_syntax.specs.Least.{first_fault}
use Rattle.flux_types.specs.Signatures.{AreSigs}
use Rattle.flux_types.specs.Rows.{source_rows}
use Rattle.flux_types.proofs.Answered.{least_is}
use Rattle.flux_types.proofs.typing.source_types.Goals as goal

pub sources-requires-clause-named : goal.sources-requires-clause-named
sources-requires-clause-named g c = c.requires.named ∙ ap named_of (sym c.as_slice.ensures)

pub sources-requires-clause-sigs : goal.sources-requires-clause-sigs
sources-requires-clause-sigs g c = let kind = (g.L.Meaning.meaning c.args.library.now).kind in
    subst (λ (l : List Decl). AreSigs kind l c.as_slice-2.result.now) (sym c.as_slice.ensures)
    (subst (λ (sigs : List NodeSig). AreSigs kind c.args.decls.now sigs) (sym c.as_slice-2.ensures) c.requires.sigs)

pub returns-in-None-clause-fits : goal.returns-in-None-clause-fits
returns-in-None-clause-fits g c =
    sym (sym c.in-None.is ∙ c.in_ok-kind.ensures ∙ ap (λ (l : List Decl). first_fault (source_rows (g.L.Meaning.meaning c.args.library.now) l)) c.as_slice.ensures)

pub returns-in-Some-clause-fault : goal.returns-in-Some-clause-fault
returns-in-Some-clause-fault g c =
    least_is (source_rows (g.L.Meaning.meaning c.args.library.now)) c.as_slice.result.now c.args.decls.now c.in_ok-kind.field-0 c.in-Some.kind c.in-Some.at c.fault_at.result
    c.as_slice.ensures c.in_ok-kind.ensures c.in-Some.is c.fault_at.ensures
