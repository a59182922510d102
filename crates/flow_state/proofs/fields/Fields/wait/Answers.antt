use Rattle.std.proofs.Common.{true, refl}
use Rattle.flow_state.specs.declared.places.Place.{Place}
use Rattle.flow_state.proofs.OnFields.{may-wait-it, wait-refused, waits-running, waits-added}
use Rattle.flow_state.proofs.fields.Fields.wait.Goals as goal

pub returns-in_err-wait-clause-fields : goal.returns-in_err-wait-clause-fields
returns-in_err-wait-clause-fields g c =
    wait-refused g.L.Meaning.meaning c.args.self.now c.requires.fields c.args.flow c.args.key c.args.mode
    c.requires.may c.index_mut-place.result.now c.index_mut-place.ensures.value c.wait.new.self
    c.in_err-wait.ensures.err

pub wait-requires : goal.wait-requires
wait-requires g c =
    may-wait-it g.L.Meaning.meaning c.args.self.now c.requires.fields c.args.flow c.args.key c.args.mode c.requires.may

pub returns-clause-fields : goal.returns-clause-fields
returns-clause-fields g c =
    let place = c.index_mut-place.result.now in
    let new : Place = record { local = place.local; session = place.session; stands = true } in
    waits-running g.L.Meaning.meaning c.args.self.now c.requires.fields c.args.flow c.args.key c.args.mode
    c.requires.may place c.index_mut-place.ensures.value new refl refl refl c.wait.new.self c.in_ok-wait.ensures.ok
    c.add.new.self (rw c.new.ensures at c.add.ensures)

pub returns-clause-ok : goal.returns-clause-ok
returns-clause-ok g c =
    let place = c.index_mut-place.result.now in
    let new : Place = record { local = place.local; session = place.session; stands = true } in
    waits-added g.L.Meaning.meaning c.args.self.now c.requires.fields c.args.flow c.args.key c.args.mode
    c.requires.may place c.index_mut-place.ensures.value new refl refl refl c.wait.new.self c.in_ok-wait.ensures.ok
    c.add.new.self (rw c.new.ensures at c.add.ensures)
