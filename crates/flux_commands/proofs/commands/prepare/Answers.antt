use Rattle.std.specs.Arc.{arc_value}
use Rattle.std.specs.Prelude.{option_copied, IfOk, IfErr}
use Rattle.std.proofs.Common.{subst}
use Rattle.flux_cli.specs.Commands.{check, plan}
use Rattle.flux_commands.specs.BuiltIn.{BuiltInLibrary, meaning_in}
use Rattle.flux_commands.specs.steps.Refusals.{IsRefused}
use Rattle.flux_commands.specs.steps.Preparing.{IsPrepared}
use Rattle.flux_commands.proofs.Loading.{asks_none}
use Rattle.flux_commands.proofs.commands.prepare.Goals as goal

pub returns-in-Check-clause-done : goal.returns-in-Check-clause-done
returns-in-Check-clause-done g c = rw c.in-Check.is (subst (λ (l : BuiltInLibrary). IfOk c.prepare_check.result (IsPrepared (meaning_in l) (check c.in-Check.file.now) (g.S.Store.files c.args.store.now)))
    c.deref.ensures c.prepare_check.ensures.done)

pub returns-in-Check-clause-refused : goal.returns-in-Check-clause-refused
returns-in-Check-clause-refused g c = rw c.in-Check.is (subst (λ (l : BuiltInLibrary). IfErr c.prepare_check.result (IsRefused (meaning_in l) (check c.in-Check.file.now) (g.S.Store.files c.args.store.now)))
    c.deref.ensures c.prepare_check.ensures.refused)

pub returns-in-Plan-clause-done : goal.returns-in-Plan-clause-done
returns-in-Plan-clause-done g c = rw c.in-Plan.is (subst (λ (l : BuiltInLibrary). IfOk c.prepare_plan.result (IsPrepared (meaning_in l) (plan c.in-Plan.file.now) (g.S.Store.files c.args.store.now)))
    c.deref-in-Plan.ensures c.prepare_plan.ensures.done)

pub returns-in-Plan-clause-refused : goal.returns-in-Plan-clause-refused
returns-in-Plan-clause-refused g c = rw c.in-Plan.is (subst (λ (l : BuiltInLibrary). IfErr c.prepare_plan.result (IsRefused (meaning_in l) (plan c.in-Plan.file.now) (g.S.Store.files c.args.store.now)))
    c.deref-in-Plan.ensures c.prepare_plan.ensures.refused)

pub returns-in-Format-clause-asked : goal.returns-in-Format-clause-asked
returns-in-Format-clause-asked g c = rw c.in-Format.is (c.prepare_format.ensures.asked (meaning_in (arc_value c.args.library)))

pub returns-in-Format-clause-done : goal.returns-in-Format-clause-done
returns-in-Format-clause-done g c = rw c.in-Format.is (c.prepare_format.ensures.done (meaning_in (arc_value c.args.library)))

pub returns-in-Format-clause-refused : goal.returns-in-Format-clause-refused
returns-in-Format-clause-refused g c = rw c.in-Format.is (c.prepare_format.ensures.refused (meaning_in (arc_value c.args.library)))

pub returns-in-Format-clause-firm : goal.returns-in-Format-clause-firm
returns-in-Format-clause-firm g c = rw c.in-Format.is (c.prepare_format.ensures.firm (meaning_in (arc_value c.args.library)))

pub returns-in-Run-clause-asked : goal.returns-in-Run-clause-asked
returns-in-Run-clause-asked g c = rw c.in-Run.is (c.prepare_run.ensures.asked (option_copied c.in-Run.docs))

pub returns-in-Run-clause-done : goal.returns-in-Run-clause-done
returns-in-Run-clause-done g c = rw c.in-Run.is (c.prepare_run.ensures.done (option_copied c.in-Run.docs))

pub returns-in-Run-clause-refused : goal.returns-in-Run-clause-refused
returns-in-Run-clause-refused g c = rw c.in-Run.is (c.prepare_run.ensures.refused (option_copied c.in-Run.docs))

pub returns-in-Run-clause-firm : goal.returns-in-Run-clause-firm
returns-in-Run-clause-firm g c = rw c.in-Run.is (c.prepare_run.ensures.firm (option_copied c.in-Run.docs))

pub returns-in-Audit-clause-asked : goal.returns-in-Audit-clause-asked
returns-in-Audit-clause-asked g c = rw c.in-Audit.is (c.prepare_audit.ensures.asked (option_copied c.in-Audit.docs))

pub returns-in-Audit-clause-done : goal.returns-in-Audit-clause-done
returns-in-Audit-clause-done g c = rw c.in-Audit.is (c.prepare_audit.ensures.done (option_copied c.in-Audit.docs))

pub returns-in-Audit-clause-refused : goal.returns-in-Audit-clause-refused
returns-in-Audit-clause-refused g c = rw c.in-Audit.is (c.prepare_audit.ensures.refused (option_copied c.in-Audit.docs))

pub returns-in-Audit-clause-firm : goal.returns-in-Audit-clause-firm
returns-in-Audit-clause-firm g c = rw c.in-Audit.is (c.prepare_audit.ensures.firm (option_copied c.in-Audit.docs))

pub returns-in-Load-clause-asked : goal.returns-in-Load-clause-asked
returns-in-Load-clause-asked g c = rw c.in-Load.is (asks_none (meaning_in (arc_value c.args.library)) (g.S.Store.files c.args.store.now) c.in-Load.count c.in-Load.first c.in-Load.runtime (g.S.Store.asked c.args.store.now))

pub returns-in-Load-clause-done : goal.returns-in-Load-clause-done
returns-in-Load-clause-done g c = rw c.in-Load.is (c.prepare_load.ensures.done (g.S.Store.files c.args.store.now))

pub returns-in-Load-clause-refused : goal.returns-in-Load-clause-refused
returns-in-Load-clause-refused g c = rw c.in-Load.is (c.prepare_load.ensures.refused (g.S.Store.files c.args.store.now))

pub returns-in-Load-clause-counts : goal.returns-in-Load-clause-counts
returns-in-Load-clause-counts g c = c.prepare_load.ensures.counts (g.S.Store.faults c.args.store.now)

pub returns-in-Load-clause-firm : goal.returns-in-Load-clause-firm
returns-in-Load-clause-firm g c = rw c.in-Load.is (c.prepare_load.ensures.firm (g.S.Store.files c.args.store.now))

pub returns-in-Simulate-clause-asked : goal.returns-in-Simulate-clause-asked
returns-in-Simulate-clause-asked g c = rw c.in-Simulate.is (c.prepare_simulation.ensures.asked (option_copied c.in-Simulate.docs))

pub returns-in-Simulate-clause-done : goal.returns-in-Simulate-clause-done
returns-in-Simulate-clause-done g c = rw c.in-Simulate.is (c.prepare_simulation.ensures.done (option_copied c.in-Simulate.docs))

pub returns-in-Simulate-clause-refused : goal.returns-in-Simulate-clause-refused
returns-in-Simulate-clause-refused g c = rw c.in-Simulate.is (c.prepare_simulation.ensures.refused (option_copied c.in-Simulate.docs))

pub returns-in-Simulate-clause-firm : goal.returns-in-Simulate-clause-firm
returns-in-Simulate-clause-firm g c = rw c.in-Simulate.is (c.prepare_simulation.ensures.firm (option_copied c.in-Simulate.docs))

pub returns-clause-asked : goal.returns-clause-asked
returns-clause-asked g c =
    rw c.in-Swarm.is (rw c.as_bytes.ensures at (c.prepare_swarm.ensures.asked (option_copied c.in-Swarm.docs)))

pub returns-clause-done : goal.returns-clause-done
returns-clause-done g c =
    rw c.in-Swarm.is (rw c.as_bytes.ensures at (c.prepare_swarm.ensures.done (option_copied c.in-Swarm.docs)))

pub returns-clause-refused : goal.returns-clause-refused
returns-clause-refused g c =
    rw c.in-Swarm.is (rw c.as_bytes.ensures at (c.prepare_swarm.ensures.refused (option_copied c.in-Swarm.docs)))

pub returns-clause-firm : goal.returns-clause-firm
returns-clause-firm g c = rw c.in-Swarm.is (c.prepare_swarm.ensures.firm (option_copied c.in-Swarm.docs))
