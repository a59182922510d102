use Rattle.flux_spelling.proofs.Causes.{answers_value, answers_too_long, answers_bad, reads_back}
use Rattle.flux_spelling.proofs.reading.read_value.Goals as goal

pub returns-clause-value : goal.returns-clause-value
returns-clause-value c value n first = answers_value c.read_front.result c.args.bytes.now c.read_front.ensures value n first.begins

pub returns-clause-too_long : goal.returns-clause-too_long
returns-clause-too_long c at long = answers_too_long c.read_front.result c.args.bytes.now c.read_front.ensures at long

pub returns-clause-bad : goal.returns-clause-bad
returns-clause-bad c at bad = answers_bad c.read_front.result c.args.bytes.now c.read_front.ensures at bad

pub returns-clause-again : goal.returns-clause-again
returns-clause-again c value begins = reads_back c.read_front.result c.args.bytes.now c.read_front.ensures value begins
