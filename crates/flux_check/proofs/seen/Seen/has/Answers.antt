use Rattle.std.proofs.Common.{◌≡◌, ◌∙◌, ◌&&◌, ℕ, Bool, List, map, ap}
use Rattle.std.specs.Bool.{beq}
use Rattle.std.specs.Str.{bytes_eq}
use Rattle.std.specs.Borrow.{Bor}
use Rattle.flux_syntax.proofs.BorrowedNames.{any_map}
use Rattle.flux_check.specs.steps.Seen.{Flags, has_flag}
use Rattle.flux_check.proofs.seen.Seen.has.Goals as goal

abbrev Key : Type 0
Key = Bor (List ℕ) × Bor (List ℕ) × Bool

abbrev flag_at : Key → List ℕ × List ℕ × Bool
flag_at k = (k.0.now, k.1.now, k.2)

pub returns : goal.returns
returns c =
    let node = c.args.node.now in
    let name = c.args.name.now in
    c.contains.ensures
    ∙ any_map flag_at (λ o. bytes_eq node o.0 && bytes_eq name o.1 && beq c.args.flag o.2) c.self.inside.set.keys
    ∙ ap (λ (t : Flags). has_flag t node name c.args.flag) c.self.view_is
