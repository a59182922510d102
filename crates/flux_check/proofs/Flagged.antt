-- What a set of flags has is what came into it.
use Rattle.std.proofs.Common.{◌≡◌, ℕ, ◌||◌, ◌&&◌, Bool, true, false, if◌then◌else◌, List, [], ◌∷◌, ◌++◌, refl, ap, ◌∙◌}
use Rattle.std.specs.Bool.{beq}
use Rattle.std.specs.Str.{bytes_eq}
use Rattle.std.proofs.lemmas.List.Folds.{list_any-append}
use Rattle.std.proofs.lemmas.Slice.Eq.{bytes_eq-Decides}
use Rattle.std.proofs.Math.Bool.{or-false}
use Rattle.std.proofs.lemmas.Bool.{and_parts}
use Rattle.flux_syntax.proofs.Found.{absorbed}
use Rattle.flux_check.specs.steps.Seen.{Flags, has_flag, with_flag}

same_flag : (a b : Bool) → beq a b ≡ true → a ≡ b
same_flag true true e = refl
same_flag true false e = absurd cc
same_flag false true e = absurd cc
same_flag false false e = refl

-- one more
pub has_more : (seen : Flags) (n m : List ℕ) (g : Bool) (node name : List ℕ) (flag : Bool)
    → has_flag (with_flag seen n m g) node name flag ≡ (has_flag seen node name flag || (bytes_eq node n && bytes_eq name m && beq flag g))
has_more seen n m g node name flag = one (has_flag seen n m g) refl
  where
    new : Bool
    new = bytes_eq node n && bytes_eq name m && beq flag g

    one : (t : Bool) → has_flag seen n m g ≡ t → has_flag (if has_flag seen n m g then seen else seen ++ (n, m, g) ∷ []) node name flag ≡ (has_flag seen node name flag || new)
    one true e = rw e (absorbed (has_flag seen node name flag) new (λ all.
        let last = and_parts (bytes_eq node n && bytes_eq name m) (beq flag g) all in
        let both = and_parts (bytes_eq node n) (bytes_eq name m) last.0 in
        let own : node ≡ n = (bytes_eq-Decides node n).0 both.0 in
        let called : name ≡ m = (bytes_eq-Decides name m).0 both.1 in
        let same : flag ≡ g = same_flag flag g last.1 in
        rw (own, called, same) e))
    one false e =
        rw e (list_any-append (λ (k : List ℕ × List ℕ × Bool). bytes_eq node k.0 && bytes_eq name k.1 && beq flag k.2) seen ((n, m, g) ∷ [])
        ∙ ap (λ (b : Bool). has_flag seen node name flag || b) (or-false new))
