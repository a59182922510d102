use Rattle.flux_library.proofs.Kept.{empty_bodies}
use Rattle.flux_library.proofs.documents.Docs.new.Goals as goal

pub invariant_of-result : goal.invariant_of-result
invariant_of-result c = (empty_bodies c.new.result.entries c.new.ensures.empty, tt)
