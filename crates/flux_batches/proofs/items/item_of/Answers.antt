use mir.Val.{to_z, of_z}
use Rattle.std.proofs.lemmas.Int.{to_z-of_z}
use Rattle.std.proofs.Common.{w64, ◌≡◌, refl, [], ◌∷◌, ◌++◌, ap, ◌∙◌, List}
use Rattle.flux_values.specs.declared.values.Value.{Value}
use Rattle.flux_values.specs.declared.values.Value.TheVariants.{Int}
use Rattle.flux_batches.proofs.ItemLemmas.{values-fit}
use Rattle.flux_batches.proofs.items.item_of.Goals as goal

pub returns-clause-values : goal.returns-clause-values
returns-clause-values c =
    let one : c.add.new.self ≡ Int c.args.number ∷ [] =
    c.in_ok-add.ensures.added ∙ ap (λ (l : List Value). l ++ Int (to_z w64 (of_z w64 c.args.number)) ∷ []) c.new-values.ensures
    ∙ ap (λ z. Int z ∷ []) (to_z-of_z w64 c.args.number c.ranges.number) in
    (refl, values-fit c.args.number c.args.text.now c.in-Ok.text c.add.new.self c.add-2.new.self c.ranges.number c.type_inv.text c.requires c.in-Ok.ensures.same one c.in_ok-add-2.ensures.added)
