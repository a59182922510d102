use Rattle.std.proofs.Common.{◌-◌, refl}
use Rattle.flow_model.specs.declared.journals.Event.TheVariants as events
use Rattle.flow_state.specs.declared.places.Place.{Place}
use Rattle.flow_state.proofs.OnFields.{may-advance, quiet-moved, no-call, moved-makes, end-running, some-live}
use Rattle.flow_state.proofs.fields.Fields.end.Goals as goal

pub advance-requires : goal.advance-requires
advance-requires g c =
    may-advance g.L.Meaning.meaning c.args.self.now c.requires.fields c.args.flow (events.End c.args.outcome)
    c.requires.coming c.index_mut-place.result.now c.index_mut-place.ensures.value

pub overflow_sub-self : goal.overflow_sub-self
overflow_sub-self g c =
    some-live g.L.Meaning.meaning c.args.self.now c.requires.fields c.args.flow (events.End c.args.outcome)
    c.requires.coming c.index_mut-place.result.now c.index_mut-place.ensures.value

pub returns-clause-fields : goal.returns-clause-fields
returns-clause-fields g c =
    let r = c.args.self.now in
    let place = c.index_mut-place.result.now in
    let read = c.index_mut-place.ensures.value in
    let new : Place = record { local = c.advance.new.local; session = place.session; stands = place.stands } in
    end-running g.L.Meaning.meaning r c.requires.fields c.args.flow (events.End c.args.outcome) c.requires.coming place
    read new c.add.new.self c.add.ensures
    (quiet-moved g.L.Meaning.meaning r c.requires.fields c.args.flow (events.End c.args.outcome) c.requires.coming place
    read new c.in_ok-advance.ensures.ok refl refl tt
    (no-call g.L.Meaning.meaning r c.requires.fields c.args.flow (events.End c.args.outcome) c.requires.coming place
    read))
    refl

pub returns-clause-ok : goal.returns-clause-ok
returns-clause-ok g c =
    let r = c.args.self.now in
    let place = c.index_mut-place.result.now in
    let read = c.index_mut-place.ensures.value in
    let new : Place = record { local = c.advance.new.local; session = place.session; stands = place.stands } in
    moved-makes g.L.Meaning.meaning r c.requires.fields c.args.flow (events.End c.args.outcome) c.requires.coming place
    read new r.table c.add.new.self (r.live - 1) c.add.ensures
    (quiet-moved g.L.Meaning.meaning r c.requires.fields c.args.flow (events.End c.args.outcome) c.requires.coming place
    read new c.in_ok-advance.ensures.ok refl refl tt
    (no-call g.L.Meaning.meaning r c.requires.fields c.args.flow (events.End c.args.outcome) c.requires.coming place
    read))
