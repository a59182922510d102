use Rattle.flux_headline.proofs.LoadsDone.{loads_loadable, loads_end, loads_done, no_load_has_fault}
use Rattle.flux_headline.proofs.loads.loads_are_done.Goals as goal

pub returns-clause-loadable : goal.returns-clause-loadable
returns-clause-loadable c = loads_loadable

pub returns-clause-end : goal.returns-clause-end
returns-clause-end c = loads_end

pub returns-clause-done : goal.returns-clause-done
returns-clause-done c = loads_done

pub returns-clause-faultless : goal.returns-clause-faultless
returns-clause-faultless c = no_load_has_fault
