use Rattle.flow_core.proofs.LegalRuns.{none_live_is_whole}
use Rattle.flow_core.proofs.laws.none_live_is_whole.Goals as goal

pub returns : goal.returns
returns g c = none_live_is_whole g.L.Meaning.meaning
