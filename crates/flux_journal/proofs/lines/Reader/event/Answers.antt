use Rattle.flux_journal.proofs.Worded.{event_no_word}
use Rattle.flux_journal.proofs.lines.Reader.event.Goals as goal

pub returns-in-None : goal.returns-in-None
returns-in-None c = event_no_word c.args.self.now.program.now c.args.text.now c.in-Some.word.now c.in-Some.rest.now c.in-Some.ensures.found c.in-None.ensures.none
