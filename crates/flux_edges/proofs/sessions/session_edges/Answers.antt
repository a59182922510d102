use Rattle.std.proofs.Common.{◌≡◌, ℕ, Bool, List, Option, None, Result, Ok, Err, OnOk, IfErr, refl, ap, subst, ◌∙◌}
use Rattle.std.specs.List.{AllByRecursion}
use Rattle.flux_faults.specs.declared.faults.FaultKind.TheVariants.{NoSession}
use Rattle.flux_faults.specs.declared.faults.CheckFault.{CheckFault}
use Rattle.flux_model.specs.Soundness.{HasSession}
use Rattle.flux_syntax.specs.Least.{fault_or, IsLeastFault}
use Rattle.flux_edges.specs.Places.{least_of}
use Rattle.flux_edges.specs.Unserved.{unserved_sources}
use Rattle.flux_edges.specs.steps.Marking.{mark_at, lines_along}
use Rattle.flux_edges.proofs.Along.{lines_least, all_served}
use Rattle.flux_edges.proofs.sessions.session_edges.Goals as goal

place_is : (c : goal.After-drop-marks) → c.lines_along-place.result ≡ least_of None (unserved_sources c.args.named.now)
place_is c =
    let p = c.args.named.now.program in let sites = c.args.named.now.sites in
    c.lines_along-place.ensures ∙ (rw (c.as_slice.ensures, c.as_slice-lines.ensures, c.as_slice-2.ensures) refl)
    ∙ ap (λ (needs : ℕ → Bool). lines_along needs None p.sources sites.sources) c.in_ok-marks.ensures.0
    ∙ lines_least _ None p.sources sites.sources

on_ok : {A B : Type 0} (result : Result (Unit {0}) CheckFault) → (A → B) → OnOk result A → OnOk result B
on_ok (Ok done) f a = f a
on_ok (Err fault) f a = tt

pub returns-clause-fits : goal.returns-clause-fits
returns-clause-fits c = subst (λ (place : Option ℕ). OnOk c.fault.result (place ≡ None)) (place_is c) c.fault.ensures.fits

pub returns-clause-fault : goal.returns-clause-fault
returns-clause-fault c = subst (λ (place : Option ℕ). IfErr c.fault.result (IsLeastFault (fault_or NoSession place None))) (place_is c) c.fault.ensures.fault

pub returns-clause-served : goal.returns-clause-served
returns-clause-served c =
    let p = c.args.named.now.program in let sites = c.args.named.now.sites in
    on_ok c.fault.result (λ none. all_served p c.in_ok-marks.ensures.1 p.sources sites.sources c.requires.sites none) (returns-clause-fits c)
