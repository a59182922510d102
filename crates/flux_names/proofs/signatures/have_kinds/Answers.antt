use Rattle.std.proofs.Common.{◌≡◌, ◌<◌, ◌≤◌, false, List, [], ◌∷◌, length, refl, sym, ◌∙◌, arith}
use Rattle.flux_values.specs.declared.values.Kind.{Kind}
use Rattle.flux_values.specs.Meanings.{LibraryMeaning}
use Rattle.flux_syntax.specs.declared.declarations.Param.{Param}
use Rattle.flux_names.specs.Rows.{have_kinds}
use Rattle.flux_names.proofs.signatures.have_kinds.Goals as goal

-- parameters without kinds
left_over : (meaning : LibraryMeaning) (params : List Param) (kinds : List Kind) → length kinds < 1 → 1 ≤ length params → have_kinds meaning params kinds ≡ false
left_over meaning [] kinds none some = absurd (omega (arith, some))
left_over meaning (p ∷ params) [] none some = refl
left_over meaning (p ∷ params) (k ∷ kinds) none some = absurd (omega (arith, none))

pub returns-in_default-rest-2 : goal.returns-in_default-rest-2
returns-in_default-rest-2 g c =
    sym (c.loop-left.invariant ∙ left_over (g.L.Meaning.meaning c.args.library.now) c.loop-left.rest.now c.loop-left.left.now c.in_default.len_below c.in_default-rest-2.len_at_least)
