use Rattle.std.proofs.Common.{refl, sym, subst, ◌∙◌, [], ◌∷◌, ◌++◌, arith}
use Rattle.flux_items.specs.steps.Fronts.{Ends}
use Rattle.flux_items.specs.steps.Values.{IsKept, AreRead, AreSoFar}
use Rattle.flux_items.proofs.Valued.{first_values, more_values, no_values}
use Rattle.flux_items.proofs.spellings.read_values.Goals as goal

pub returns-then-ends : goal.returns-then-ends
returns-then-ends c = c.done.ensures [] c.args.text.now (c.in_ok-with_room.ensures, omega arith, refl) (subst Ends c.skip_blanks.ensures.rest (c.if-ends.ensures.0 refl))

pub values-init : goal.values-init
values-init c = (refl, rw c.in_ok-with_room.ensures (first_values c.args.kinds.now c.args.text.now (λ ends. let so = c.if-ends.ensures.1 (subst Ends (sym c.skip_blanks.ensures.rest) ends) in absurd cc)))

pub returns-in-Bad : goal.returns-in-Bad
returns-in-Bad c =
    let none = rw c.in-Bad.is at c.in_ok-read_next.ensures in
    no_values c.args.kinds.now c.args.text.now c.values.rest.now c.values.kept.values c.values.kept.fits c.values.invariant.1 none

pub returns-in-Last : goal.returns-in-Last
returns-in-Last c =
    let last = rw c.in-Last.is at c.in_ok-read_next.ensures in
    let so = c.values.invariant.1 in
    let all = so.all ++ c.in-Last.value ∷ [] in
    let new = c.add.new.self in
    let keeps = subst (λ kinds. IsKept kinds so.all c.values.kept.values c.values.kept.fits) (sym c.values.invariant.0) so.keeps in
    let kept = subst (λ kinds. IsKept kinds all new.values new.fits) (sym c.add.ensures.kinds) (c.in_ok-add-in-Last.ensures.kept so.all keeps) in
    subst (λ kinds. AreRead kinds c.args.text.now c.done-in-Last.result) (c.add.ensures.kinds ∙ c.values.invariant.0) (c.done-in-Last.ensures all c.args.text.now kept (so.on c.in-Last.value [] last))

pub values-preserved : goal.values-preserved
values-preserved c =
    let next = rw c.in-More.is at c.in_ok-read_next.ensures in
    let new = c.add-in-More.new.self in
    let same = c.values.invariant.0 in (
      c.add-in-More.ensures.kinds ∙ same,
      more_values c.args.kinds.now c.args.text.now c.values.rest.now c.in-More.behind.now c.values.kept.values new.values c.values.kept.fits new.fits c.in-More.value c.values.invariant.1 next.0
          (λ all keeps. subst (λ kinds. IsKept kinds (all ++ c.in-More.value ∷ []) new.values new.fits) same (c.in_ok-add-in-More.ensures.kept all (subst (λ kinds. IsKept kinds all c.values.kept.values c.values.kept.fits) (sym same) keeps))),
    )
