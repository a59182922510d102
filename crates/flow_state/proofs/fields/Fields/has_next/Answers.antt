use Rattle.std.proofs.Common.{◌≡◌, Option, Some, None, refl}
use Rattle.std.specs.Prelude.{IsSome}
use Rattle.flow_state.proofs.OnFields.{reached-of, read-there}
use Rattle.flow_state.proofs.fields.Fields.has_next.Goals as goal

some-is : {X : Type 0} (found : Option X) → IsSome found → (x : X) × (found ≡ Some x)
some-is (Some x) is = (x, refl)
some-is None is = absurd cc

pub has_next-requires : goal.has_next-requires
has_next-requires g c =
    reached-of g.L.Meaning.meaning c.args.self.now c.requires.fields c.args.flow c.index-place.result.now
    c.requires.flow c.index-place.ensures

pub returns : goal.returns
returns g c =
    let (next, is) = some-is _ c.has_next.ensures.holds in (
      next,
      record {
        place = c.index-place.result.now;
        is_place = read-there g.L.Meaning.meaning c.args.self.now c.requires.fields c.args.flow c.index-place.result.now
            c.requires.flow c.index-place.ensures;
        plan = c.has_next.ensures.plan;
        is_plan = c.has_next.ensures.is_plan;
        coming = is;
      },
    )
