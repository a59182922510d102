use Rattle.bencoding.proofs.Causes.{has_cause, is_read, is_refused}
use Rattle.bencoding.proofs.reading.read_ben.Goals as goal

pub returns-clause-cause : goal.returns-clause-cause
returns-clause-cause c = has_cause c.read_value.result c.args.bytes.now c.read_value.ensures

pub returns-clause-value : goal.returns-clause-value
returns-clause-value c = λ t n begins. is_read c.read_value.result c.args.bytes.now
    (has_cause c.read_value.result c.args.bytes.now c.read_value.ensures) t n begins

pub returns-clause-bad : goal.returns-clause-bad
returns-clause-bad c = λ at bad. is_refused c.read_value.result c.args.bytes.now
    (has_cause c.read_value.result c.args.bytes.now c.read_value.ensures) at bad
