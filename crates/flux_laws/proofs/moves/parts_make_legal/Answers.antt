use Rattle.flux_laws.proofs.Parts.{parts_make_legal}
use Rattle.flux_laws.proofs.moves.parts_make_legal.Goals as goal

pub returns : goal.returns
returns c = parts_make_legal
