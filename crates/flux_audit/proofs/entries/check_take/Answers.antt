use Rattle.std.proofs.Common.{refl, subst}
use Rattle.flow_model.specs.declared.journals.Event.TheVariants as events
use Rattle.flow_model.specs.Setup.{Setup}
use Rattle.flow_model.specs.Events.{IsNext}
use Rattle.flow_state.specs.declared.coming.Coming.{Coming}
use Rattle.flow_state.specs.declared.coming.Coming.TheVariants as comings
use Rattle.flow_state.specs.Coming.{IsComing, Comes}
use Rattle.flow_state.specs.States.{setup_at}
use Rattle.flow_state.specs.Blockers.{IsHeldBy, IsAhead}
use Rattle.flux_audit.proofs.Checking.{first_path, first_hold, first_turn, off_next, may_take, made_is, lowest_some, lowest_none}
use Rattle.flux_audit.proofs.entries.check_take.Goals as goal

pub returns-then-not-same_coming : goal.returns-then-not-same_coming
returns-then-not-same_coming g c =
    let setup : Setup = setup_at g.L.Meaning.meaning c.args.state.now in
    let before = c.args.state.now.entries in
    first_path setup before c.args.flow c.requires (events.Take c.args.key c.args.mode)
    (off_next setup before c.args.flow c.next.result (comings.Take c.args.key c.args.mode) (events.Take c.args.key c.args.mode) c.next.ensures
    (λ e. let t = c.if-not-same_coming.ensures.1 e in absurd cc) refl)

pub returns-then-is_some : goal.returns-then-is_some
returns-then-is_some g c =
    let setup : Setup = setup_at g.L.Meaning.meaning c.args.state.now in
    let before = c.args.state.now.entries in
    let next : IsNext setup before c.args.flow.0 (events.Take c.args.key c.args.mode) =
    subst (λ (x : Coming). IsComing setup before c.args.flow.0 x) (c.if-not-same_coming.ensures.0 refl) c.next.ensures.is in
    let held = lowest_some (λ other. IsHeldBy before other c.args.flow.0 c.args.key c.args.mode) c.holder.result c.holder.ensures c.if-is_some.ensures in
    first_hold setup before c.args.flow c.requires c.args.key c.args.mode next held.0 held.1

pub returns-then-is_some-2 : goal.returns-then-is_some-2
returns-then-is_some-2 g c =
    let setup : Setup = setup_at g.L.Meaning.meaning c.args.state.now in
    let before = c.args.state.now.entries in
    let next : IsNext setup before c.args.flow.0 (events.Take c.args.key c.args.mode) =
    subst (λ (x : Coming). IsComing setup before c.args.flow.0 x) (c.if-not-same_coming.ensures.0 refl) c.next.ensures.is in
    let ahead = lowest_some (λ other. IsAhead before other c.args.flow.0 c.args.key c.args.mode) c.ahead.result c.ahead.ensures c.if-is_some-2.ensures in
    first_turn setup before c.args.flow c.requires c.args.key c.args.mode next
    (lowest_none (λ other. IsHeldBy before other c.args.flow.0 c.args.key c.args.mode) c.holder.result c.holder.ensures c.if-is_some.ensures) ahead.0 ahead.1

pub holder-requires : goal.holder-requires
holder-requires g c =
    let setup : Setup = setup_at g.L.Meaning.meaning c.args.state.now in
    let before = c.args.state.now.entries in
    let next : IsNext setup before c.args.flow.0 (events.Take c.args.key c.args.mode) =
    subst (λ (x : Coming). IsComing setup before c.args.flow.0 x) (c.if-not-same_coming.ensures.0 refl) c.next.ensures.is in
    next

pub ahead-requires : goal.ahead-requires
ahead-requires g c =
    let setup : Setup = setup_at g.L.Meaning.meaning c.args.state.now in
    let before = c.args.state.now.entries in
    let next : IsNext setup before c.args.flow.0 (events.Take c.args.key c.args.mode) =
    subst (λ (x : Coming). IsComing setup before c.args.flow.0 x) (c.if-not-same_coming.ensures.0 refl) c.next.ensures.is in
    next

pub make-requires-clause-comes : goal.make-requires-clause-comes
make-requires-clause-comes g c =
    subst (λ (x : Coming). Comes (setup_at g.L.Meaning.meaning c.args.state.now) c.args.state.now.entries c.args.flow.0 x)
    (c.if-not-same_coming.ensures.0 refl) c.next.ensures

pub make-requires-clause-may : goal.make-requires-clause-may
make-requires-clause-may g c =
    let setup : Setup = setup_at g.L.Meaning.meaning c.args.state.now in
    let before = c.args.state.now.entries in
    let next : IsNext setup before c.args.flow.0 (events.Take c.args.key c.args.mode) =
    subst (λ (x : Coming). IsComing setup before c.args.flow.0 x) (c.if-not-same_coming.ensures.0 refl) c.next.ensures.is in
    may_take setup before c.args.flow c.requires c.args.key c.args.mode next
    (lowest_none (λ other. IsHeldBy before other c.args.flow.0 c.args.key c.args.mode) c.holder.result c.holder.ensures c.if-is_some.ensures)
    (lowest_none (λ other. IsAhead before other c.args.flow.0 c.args.key c.args.mode) c.ahead.result c.ahead.ensures c.if-is_some-2.ensures)

pub returns : goal.returns
returns g c =
    let setup : Setup = setup_at g.L.Meaning.meaning c.args.state.now in
    let before = c.args.state.now.entries in
    let next : IsNext setup before c.args.flow.0 (events.Take c.args.key c.args.mode) =
    subst (λ (x : Coming). IsComing setup before c.args.flow.0 x) (c.if-not-same_coming.ensures.0 refl) c.next.ensures.is in
    made_is g.L.Meaning.meaning c.args.state.now c.make.new.self c.args.flow (events.Take c.args.key c.args.mode) c.in_ok-make.ensures.ok next
