use Rattle.std.proofs.Common.{◌≡◌, length}
use Rattle.flow_model.specs.Setup.{Setup}
use Rattle.flow_state.specs.States.{setup_of, setup_by}
use Rattle.flux_audit.specs.declared.verdicts.Verdict.TheVariants.{Yes, No}
use Rattle.flux_audit.specs.Verdicts.{HasVerdict}
use Rattle.flux_audit.proofs.Checking.{if_ok}
use Rattle.flux_audit.proofs.Judging.{yes_once, no_once}
use Rattle.flux_audit.proofs.audits.audit.Goals as goal

pub returns-clause-yes : goal.returns-clause-yes
returns-clause-yes g c own is =
    let setup : Setup = setup_by g.L.Meaning.meaning (setup_of c.args.setup) in
    if_ok (HasVerdict setup c.args.journal.now) (λ verdict. verdict ≡ Yes (length own.entries)) c.judge.result
    (λ verdict has. yes_once setup c.requires.named c.args.journal.now verdict has own is) c.judge.ensures

pub returns-clause-no : goal.returns-clause-no
returns-clause-no g c line rule is =
    let setup : Setup = setup_by g.L.Meaning.meaning (setup_of c.args.setup) in
    if_ok (HasVerdict setup c.args.journal.now) (λ verdict. verdict ≡ No line rule) c.judge.result
    (λ verdict has. no_once setup c.requires.named c.args.journal.now verdict has line rule is) c.judge.ensures
