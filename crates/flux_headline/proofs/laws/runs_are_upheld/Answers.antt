use Rattle.flux_headline.proofs.Upheld.{run_texts_read_back, run_texts_are_upheld, runs_are_upheld}
use Rattle.flux_headline.proofs.laws.runs_are_upheld.Goals as goal

pub returns-clause-reads : goal.returns-clause-reads
returns-clause-reads c = run_texts_read_back

pub returns-clause-upheld : goal.returns-clause-upheld
returns-clause-upheld c = run_texts_are_upheld

pub returns-clause-calls : goal.returns-clause-calls
returns-clause-calls c = runs_are_upheld
