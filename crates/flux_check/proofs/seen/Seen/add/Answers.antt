use Rattle.std.proofs.Common.{◌≡◌, ◌∙◌, ◌&&◌, ◌++◌, ◌∷◌, [], ℕ, Bool, if◌then◌else◌, List, map, ap}
use Rattle.std.specs.Bool.{beq}
use Rattle.std.specs.List.{list_any}
use Rattle.std.specs.Str.{bytes_eq}
use Rattle.std.specs.Borrow.{Bor}
use Rattle.flux_syntax.proofs.BorrowedNames.{any_map, added}
use Rattle.flux_check.specs.steps.Seen.{Flags, has_flag}
use Rattle.flux_check.proofs.seen.Seen.add.Goals as goal

abbrev Key : Type 0
Key = Bor (List ℕ) × Bor (List ℕ) × Bool

abbrev flag_at : Key → List ℕ × List ℕ × Bool
flag_at k = (k.0.now, k.1.now, k.2)

pub returns : goal.returns
returns c =
    let seen = c.args.self.now in
    let node = c.args.node.now in
    let name = c.args.name.now in
    let flag = c.args.flag in
    let key : Key = (c.args.node, c.args.name, flag) in
    let keys = c.self.inside.set.keys in
    let has : list_any (λ (k : Key). bytes_eq node k.0.now && bytes_eq name k.1.now && beq flag k.2) keys ≡ has_flag seen node name flag =
    any_map flag_at (λ o. bytes_eq node o.0 && bytes_eq name o.1 && beq flag o.2) keys
    ∙ ap (λ (t : Flags). has_flag t node name flag) c.self.view_is in
    ap (map flag_at) c.in_ok-insert.ensures.keys
    ∙ added flag_at (list_any (λ (k : Key). bytes_eq node k.0.now && bytes_eq name k.1.now && beq flag k.2) keys) (has_flag seen node name flag) keys key has
    ∙ ap (λ (t : Flags). if has_flag seen node name flag then t else t ++ (node, name, flag) ∷ []) c.self.view_is
