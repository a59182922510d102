use Rattle.std.proofs.Common.{ℕ, ◌<◌, arith}
use Rattle.std.proofs.lemmas.List.Elements.{All-from_get_or}
use Rattle.flux_library.proofs.documents.is_short.Goals as goal

pub returns-clause-bytes : goal.returns-clause-bytes
returns-clause-bytes c = All-from_get_or (λ (b : ℕ). b < 256) c.args.body.now 0 (λ i within. omega (arith, c.type_inv.body i))
