use Rattle.std.proofs.Common.{◌∙◌, map, ap}
use Rattle.std.specs.Str.{bytes_eq}
use Rattle.flux_syntax.specs.Names.{with_name}
use Rattle.flux_syntax.proofs.BorrowedNames.{any_map, added}
use Rattle.flux_syntax.proofs.names.Names.add.Goals as goal

pub returns : goal.returns
returns c =
    ap (map (λ k. k.now)) c.in_ok-insert.ensures.keys
    ∙ added (λ k. k.now) _ _ c.self.inside.set.keys c.args.name (any_map (λ k. k.now) (bytes_eq c.args.name.now) c.self.inside.set.keys)
    ∙ ap (λ l. with_name l c.args.name.now) c.self.view_is
