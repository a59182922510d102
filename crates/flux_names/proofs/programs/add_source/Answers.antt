use Rattle.std.proofs.Common.{◌≡◌, ◌<◌, [], ◌∷◌, length}
use Rattle.flux_syntax.specs.ProgramOfText.{place_of}
use Rattle.flux_names.specs.Rows.{not_among}
use Rattle.flux_names.proofs.Numbers.{known_words, known_below}
use Rattle.flux_names.proofs.programs.add_source.Goals as goal

pub of-requires : goal.of-requires
of-requires c =
    let names = c.args.names.now in
    let name = c.in-Source.name in
    let all : not_among names (name ∷ c.in-Source.target ∷ []) ≡ [] = rw c.in-Source.is at c.requires.known in
    let each = known_words names (name ∷ c.in-Source.target ∷ []) all in
    let below : place_of names name < length names = known_below names name each.0 in
    rw (c.number_of-node.ensures, c.requires.each) below
