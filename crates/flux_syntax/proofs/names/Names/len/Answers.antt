use Rattle.std.proofs.Common.{◌∙◌, length, ap}
use Rattle.flux_syntax.proofs.BorrowedNames.{map_length}
use Rattle.flux_syntax.proofs.names.Names.len.Goals as goal

pub returns : goal.returns
returns c = c.len.ensures.len ∙ map_length (λ k. k.now) c.self.inside.set.keys ∙ ap length c.self.view_is
