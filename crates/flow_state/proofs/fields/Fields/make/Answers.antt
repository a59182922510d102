use Rattle.std.proofs.Common.{◌≡◌, ◌⊎◌, inl, inr, Some}
use Rattle.flux_model.specs.declared.programs.NodeNo.{NodeNo}
use Rattle.flow_model.specs.declared.journals.Event.{Event}
use Rattle.flow_model.specs.declared.journals.Event.TheVariants as events
use Rattle.flux_plan.proofs.Acting.{on_ok}
use Rattle.flow_state.specs.declared.coming.Coming.{Coming}
use Rattle.flow_state.specs.declared.coming.Coming.TheVariants as comings
use Rattle.flow_state.specs.Coming.{event_of}
use Rattle.flow_state.proofs.Asked.{event-coming}
use Rattle.flow_state.proofs.fields.Fields.make.Goals as goal

-- a call, and nothing, is no event
no-event : (coming : Coming) (event : Event) → event_of coming ≡ Some event
    → ((node : NodeNo) × (coming ≡ comings.Call node)) ⊎ (coming ≡ comings.Ended) → ⊥
no-event coming event is (inl (node, e)) = let none : event_of (comings.Call node) ≡ Some event = rw e at is in cc
no-event coming event is (inr e) = let none : event_of comings.Ended ≡ Some event = rw e at is in cc

pub acquire-requires-clause-coming : goal.acquire-requires-clause-coming
acquire-requires-clause-coming g c =
    let comes = rw c.in-Take.is at c.requires.comes in
    let (next, there) = c.has_next.ensures in
    event-coming g.L.Meaning.meaning c.args.self.now c.requires.fields c.args.flow c.requires.flow next there
    (events.Take c.in-Take.key c.in-Take.mode) comes.is

pub acquire-requires-clause-free : goal.acquire-requires-clause-free
acquire-requires-clause-free g c =
    let comes = rw c.in-Take.is at c.requires.comes in
    let may = c.requires.may.may in
    λ other blocks. may.free
    (other, record { key = c.in-Take.key; mode = c.in-Take.mode; next = comes.is; blocked = blocks })

pub go-requires-clause-coming : goal.go-requires-clause-coming
go-requires-clause-coming g c =
    let comes = rw c.in-Enter.is at c.requires.comes in
    let (next, there) = c.has_next.ensures in
    event-coming g.L.Meaning.meaning c.args.self.now c.requires.fields c.args.flow c.requires.flow next there
    (events.Enter c.in-Enter.node) comes.is

pub go-requires-in-Choose-clause-coming : goal.go-requires-in-Choose-clause-coming
go-requires-in-Choose-clause-coming g c =
    let comes = rw c.in-Choose.is at c.requires.comes in
    let (next, there) = c.has_next.ensures in
    event-coming g.L.Meaning.meaning c.args.self.now c.requires.fields c.args.flow c.requires.flow next there
    (events.Choose c.in-Choose.number) comes.is

pub go-requires-in-Exit-clause-coming : goal.go-requires-in-Exit-clause-coming
go-requires-in-Exit-clause-coming g c =
    let comes = rw c.in-Exit.is at c.requires.comes in
    let (next, there) = c.has_next.ensures in
    event-coming g.L.Meaning.meaning c.args.self.now c.requires.fields c.args.flow c.requires.flow next there
    (events.Exit c.in-Exit.node c.in-Exit.outcome) comes.is

pub release-requires-clause-coming : goal.release-requires-clause-coming
release-requires-clause-coming g c =
    let comes = rw c.in-Drop.is at c.requires.comes in
    let (next, there) = c.has_next.ensures in
    event-coming g.L.Meaning.meaning c.args.self.now c.requires.fields c.args.flow c.requires.flow next there
    (events.Drop c.in-Drop.key) comes.is

pub end-requires-clause-coming : goal.end-requires-clause-coming
end-requires-clause-coming g c =
    let comes = rw c.in-End.is at c.requires.comes in
    let (next, there) = c.has_next.ensures in
    event-coming g.L.Meaning.meaning c.args.self.now c.requires.fields c.args.flow c.requires.flow next there
    (events.End c.in-End.outcome) comes.is

pub unreachable-requires : goal.unreachable-requires
unreachable-requires g c =
    let may = c.requires.may.may in
    no-event c.args.coming c.requires.may.event (c.requires.comes.event c.requires.may.event may.next) c.in-Call.is

pub returns-in-Take-clause-ok : goal.returns-in-Take-clause-ok
returns-in-Take-clause-ok g c = on_ok c.acquire.result c.acquire.ensures.ok
    (λ adds. record { event = events.Take c.in-Take.key c.in-Take.mode; adds = adds })

pub returns-in-Enter-clause-ok : goal.returns-in-Enter-clause-ok
returns-in-Enter-clause-ok g c = on_ok c.go.result c.go.ensures.ok
    (λ adds. record { event = events.Enter c.in-Enter.node; adds = adds })

pub returns-in-Choose-clause-ok : goal.returns-in-Choose-clause-ok
returns-in-Choose-clause-ok g c = on_ok c.go-in-Choose.result c.go-in-Choose.ensures.ok
    (λ adds. record { event = events.Choose c.in-Choose.number; adds = adds })

pub returns-in-Exit-clause-ok : goal.returns-in-Exit-clause-ok
returns-in-Exit-clause-ok g c = on_ok c.go-in-Exit.result c.go-in-Exit.ensures.ok
    (λ adds. record { event = events.Exit c.in-Exit.node c.in-Exit.outcome; adds = adds })

pub returns-in-Drop-clause-ok : goal.returns-in-Drop-clause-ok
returns-in-Drop-clause-ok g c = on_ok c.release.result c.release.ensures.ok
    (λ adds. record { event = events.Drop c.in-Drop.key; adds = adds })

pub returns-in-End-clause-ok : goal.returns-in-End-clause-ok
returns-in-End-clause-ok g c = on_ok c.end.result c.end.ensures.ok
    (λ adds. record { event = events.End c.in-End.outcome; adds = adds })
