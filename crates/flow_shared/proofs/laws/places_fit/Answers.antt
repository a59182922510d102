use Rattle.std.proofs.Common.{length}
use Rattle.flow_shared.proofs.Journals.{entries_behind, times_once, times_merged}
use Rattle.flow_shared.proofs.laws.places_fit.Goals as goal

pub returns : goal.returns
returns c = record {
  added = entries_behind;
  once = λ entries places rise place. times_once 0 (length entries) place places rise;
  both = λ places others place. times_merged place places others;
}
