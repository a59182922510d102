use Rattle.std.proofs.Common.{◌∙◌, ℕ, Option, List, length, ap}
use Rattle.std.specs.List.{position}
use Rattle.std.specs.Option.{unwrap_or}
use Rattle.std.specs.Str.{bytes_eq}
use Rattle.flux_syntax.proofs.BorrowedNames.{position_map, map_length, place_or}
use Rattle.flux_syntax.proofs.names.Names.place.Goals as goal

pub returns-clause-place : goal.returns-clause-place
returns-clause-place c =
    let p = bytes_eq c.args.name.now in
    let names = c.args.self.now in
    let keys = c.self.inside.set.keys in
    c.unwrap_or.ensures
    ∙ ap (λ (o : Option ℕ). unwrap_or o c.len.result) (c.get_index_of.ensures.index ∙ position_map (λ k. k.now) p keys ∙ ap (position p) c.self.view_is)
    ∙ ap (λ (n : ℕ). unwrap_or (position p names) n) (c.len.ensures.len ∙ map_length (λ k. k.now) keys ∙ ap length c.self.view_is)
    ∙ place_or p names
