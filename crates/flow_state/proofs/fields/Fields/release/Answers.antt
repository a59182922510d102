use Rattle.std.proofs.Common.{refl}
use Rattle.flow_model.specs.declared.journals.Event.TheVariants as events
use Rattle.flow_state.specs.declared.places.Place.{Place}
use Rattle.flow_state.proofs.OnFields.{may-advance, drop-moved, may-release-it, moved-makes, moved-goes_on}
use Rattle.flow_state.proofs.fields.Fields.release.Goals as goal

pub advance-requires : goal.advance-requires
advance-requires g c =
    may-advance g.L.Meaning.meaning c.args.self.now c.requires.fields c.args.flow (events.Drop c.args.key)
    c.requires.coming c.index_mut-place.result.now c.index_mut-place.ensures.value

pub release-requires : goal.release-requires
release-requires g c =
    may-release-it g.L.Meaning.meaning c.args.self.now c.requires.fields c.args.flow c.args.key c.requires.coming
    c.index_mut-place.result.now c.index_mut-place.ensures.value

pub returns-clause-fields : goal.returns-clause-fields
returns-clause-fields g c =
    let r = c.args.self.now in
    let place = c.index_mut-place.result.now in
    let read = c.index_mut-place.ensures.value in
    let new : Place = record { local = c.advance.new.local; session = place.session; stands = place.stands } in
    moved-goes_on g.L.Meaning.meaning r c.requires.fields c.args.flow (events.Drop c.args.key) c.requires.coming place
    read new c.release.new.self c.add.new.self r.live (rw c.new.ensures at c.add.ensures)
    (drop-moved g.L.Meaning.meaning r c.requires.fields c.args.flow c.args.key c.requires.coming place read new
    c.in_ok-advance.ensures.ok refl refl c.release.new.self c.release.ensures)
    refl refl

pub returns-clause-ok : goal.returns-clause-ok
returns-clause-ok g c =
    let r = c.args.self.now in
    let place = c.index_mut-place.result.now in
    let read = c.index_mut-place.ensures.value in
    let new : Place = record { local = c.advance.new.local; session = place.session; stands = place.stands } in
    moved-makes g.L.Meaning.meaning r c.requires.fields c.args.flow (events.Drop c.args.key) c.requires.coming place
    read new c.release.new.self c.add.new.self r.live (rw c.new.ensures at c.add.ensures)
    (drop-moved g.L.Meaning.meaning r c.requires.fields c.args.flow c.args.key c.requires.coming place read new
    c.in_ok-advance.ensures.ok refl refl c.release.new.self c.release.ensures)
