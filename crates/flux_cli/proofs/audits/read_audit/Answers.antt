use Rattle.flux_cli.proofs.Forms.{audit_of_serving, audit_of_simulating, some_given, audit_of_files, audit_of_options}
use Rattle.flux_cli.proofs.audits.read_audit.Goals.{then-is_some-via-then-is_some, then-is_some-via-else-is_some+then-is_some-2}
use Rattle.flux_cli.proofs.audits.read_audit.Goals as goal

pub returns-in_default : goal.returns-in_default
returns-in_default c = audit_of_files c.args.words.now c.in_ok-given.given c.in_ok-given.ensures.found c.in_default.not-Three

pub returns-then-is_some : goal.returns-then-is_some
returns-then-is_some c = audit_of_options c.args.words.now c.in_ok-given.given c.in_ok-given.ensures.found (λ r j. elim c.then-is_some.branch [
  | then-is_some-via-then-is_some w ↦ some_given c.in_ok-given.given.runtime c.is_some.result c.is_some.ensures w.if-is_some.true r
  | then-is_some-via-else-is_some+then-is_some-2 w ↦ some_given c.in_ok-given.given.journal w.is_some-else-is_some.result w.is_some-else-is_some.ensures w.if-is_some-2.true j
])

pub returns-then-serves : goal.returns-then-serves
returns-then-serves c = audit_of_serving c.args.words.now c.in_ok-given.given c.in_ok-given.ensures.found (c.serves.ensures.some c.if-serves.true)

pub returns-then-simulates : goal.returns-then-simulates
returns-then-simulates c = audit_of_simulating c.args.words.now c.in_ok-given.given c.in_ok-given.ensures.found (c.simulates.ensures.some c.if-simulates.true)
