use Rattle.std.proofs.Common.{◌∙◌, ap}
use Rattle.std.specs.List.{list_any}
use Rattle.std.specs.Str.{bytes_eq}
use Rattle.flux_syntax.proofs.BorrowedNames.{any_map}
use Rattle.flux_syntax.proofs.names.Names.has.Goals as goal

pub returns : goal.returns
returns c = c.contains.ensures ∙ any_map (λ k. k.now) (bytes_eq c.args.name.now) c.self.inside.set.keys ∙ ap (list_any (bytes_eq c.args.name.now)) c.self.view_is
