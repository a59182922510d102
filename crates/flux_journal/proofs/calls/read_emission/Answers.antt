use Rattle.flux_journal.proofs.Missing.{emission_read}
use Rattle.flux_journal.proofs.calls.read_emission.Goals as goal

pub returns-in-Some : goal.returns-in-Some
returns-in-Some c = emission_read c.args.text.now c.in-Some.text.now c.read_emitted.result c.in-Some.ensures.found c.read_emitted.ensures
