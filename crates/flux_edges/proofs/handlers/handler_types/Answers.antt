use Rattle.std.proofs.Common.{◌≡◌, ℕ, List, Option, None, OnOk, IfErr, refl, subst, ◌∙◌}
use Rattle.flux_faults.specs.declared.faults.FaultKind.TheVariants.{HandlerTypes}
use Rattle.flux_model.specs.Kinds.{sig_at}
use Rattle.flux_syntax.specs.Least.{fault_or, IsLeastFault}
use Rattle.flux_edges.specs.Places.{least_of}
use Rattle.flux_edges.specs.Handlers.{unlike_handlers}
use Rattle.flux_edges.proofs.Along.{arms_least}
use Rattle.flux_edges.proofs.handlers.handler_types.Goals as goal

place_is : (c : goal.After-drop-arms) → c.arms_along-place.result ≡ least_of None (unlike_handlers (sig_at c.args.sigs.now.nodes) c.args.named.now)
place_is c =
    c.arms_along-place.ensures ∙ (rw (c.as_slice-2.ensures, c.as_slice-3.ensures, c.as_slice-sites.ensures, c.in_ok-arms.ensures, c.as_slice.ensures) refl)
    ∙ arms_least (sig_at c.args.sigs.now.nodes) None _ _

pub returns-clause-fits : goal.returns-clause-fits
returns-clause-fits c = subst (λ (place : Option ℕ). OnOk c.fault.result (place ≡ None)) (place_is c) c.fault.ensures.fits

pub returns-clause-fault : goal.returns-clause-fault
returns-clause-fault c = subst (λ (place : Option ℕ). IfErr c.fault.result (IsLeastFault (fault_or HandlerTypes place None))) (place_is c) c.fault.ensures.fault
