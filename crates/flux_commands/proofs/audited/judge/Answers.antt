use Rattle.std.proofs.Common.{subst, sym, ◌∙◌}
use Rattle.flux_model.specs.Names.{IsNamed}
use Rattle.flow_model.specs.Setup.{Setup}
use Rattle.flux_audit.specs.Verdicts.{HasVerdict}
use Rattle.flux_commands.proofs.audited.judge.Goals as goal

pub audit-requires-clause-run : goal.audit-requires-clause-run
audit-requires-clause-run g c = c.in_ok-setup.ensures.may

pub audit-requires-clause-named : goal.audit-requires-clause-named
audit-requires-clause-named g c = subst IsNamed (sym c.in_ok-setup.ensures.program_) c.requires.named

pub returns-clause-same : goal.returns-clause-same
returns-clause-same g c = c.in_ok-program.ensures ∙ c.in_ok-setup.ensures.program_

pub returns-clause-has : goal.returns-clause-has
returns-clause-has g c = subst (λ (s : Setup). HasVerdict s c.args.journal.now c.in_ok-verdict.verdict) c.in_ok-setup.ensures.is c.in_ok-verdict.ensures.cause
