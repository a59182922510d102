use Rattle.flow_state.proofs.OnFields.{reached-of, read-there}
use Rattle.flow_state.proofs.fields.Fields.next.Goals as goal

pub next-requires : goal.next-requires
next-requires g c =
    reached-of g.L.Meaning.meaning c.args.self.now c.requires.fields c.args.flow c.index-place.result.now
    c.requires.flow c.index-place.ensures

pub returns : goal.returns
returns g c = record {
  place = c.index-place.result.now;
  is_place = read-there g.L.Meaning.meaning c.args.self.now c.requires.fields c.args.flow c.index-place.result.now
      c.requires.flow c.index-place.ensures;
  plan = c.next.ensures.plan;
  is_plan = c.next.ensures.is_plan;
  coming = c.next.ensures.holds;
}
