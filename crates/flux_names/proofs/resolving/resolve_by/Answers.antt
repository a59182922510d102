use Rattle.std.proofs.Common.{◌≡◌, ◌∙◌, None, sym, subst}
use Rattle.std.proofs.lemmas.Result.{err_from_is_err_and}
use Rattle.flux_model.specs.Numbered.{IsNumbered}
use Rattle.flux_syntax.specs.Least.{first_fault, IsLeastFault}
use Rattle.flux_names.specs.Rows.{rows}
use Rattle.flux_names.proofs.Sound.{sound, stand_once}
use Rattle.flux_names.proofs.Numbers.{numbered}
use Rattle.flux_names.proofs.resolving.resolve_by.Goals as goal

pub named_of-requires-clause-once : goal.named_of-requires-clause-once
named_of-requires-clause-once g c =
    let decls = c.args.decls.now in
    (stand_once decls (sound (g.L.Meaning.meaning c.args.library.now) decls (sym c.in_ok-kind.ensures ∙ c.in-None.is)).once).types

pub named_of-requires-clause-known : goal.named_of-requires-clause-known
named_of-requires-clause-known g c =
    (sound (g.L.Meaning.meaning c.args.library.now) c.args.decls.now (sym c.in_ok-kind.ensures ∙ c.in-None.is)).known_nodes

pub named_of-requires-clause-codes : goal.named_of-requires-clause-codes
named_of-requires-clause-codes g c =
    (sound (g.L.Meaning.meaning c.args.library.now) c.args.decls.now (sym c.in_ok-kind.ensures ∙ c.in-None.is)).codes

pub returns-in-Some-clause-fault : goal.returns-in-Some-clause-fault
returns-in-Some-clause-fault g c =
    let meaning = g.L.Meaning.meaning c.args.library.now in
    let found = sym c.in_ok-kind.ensures ∙ c.in-Some.is in
    subst (λ f. IsLeastFault f c.fault_at.result) (sym found) c.fault_at.ensures

pub returns-in_err-named_of-in-None-clause-fault : goal.returns-in_err-named_of-in-None-clause-fault
returns-in_err-named_of-in-None-clause-fault g c =
    let exit = c.from_residual-in_err-named_of-in-None in
    let p = err_from_is_err_and exit.result exit.ensures.1 in
    rw (p.1, p.2) tt

pub returns-in_ok-named_of-in-None-clause-named : goal.returns-in_ok-named_of-in-None-clause-named
returns-in_ok-named_of-in-None-clause-named g c =
    let meaning = g.L.Meaning.meaning c.args.library.now in
    let decls = c.args.decls.now in
    let none : first_fault (rows meaning decls) ≡ None = sym c.in_ok-kind.ensures ∙ c.in-None.is in
    let is = c.in_ok-named_of-in-None.ensures in
    record { sound = none; is = is; numbered = subst (λ named. IsNumbered named.program) (sym is) (numbered meaning decls c.requires.few none) }
