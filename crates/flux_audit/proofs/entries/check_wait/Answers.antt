use Rattle.std.proofs.Common.{refl, sym, subst}
use Rattle.flow_model.specs.declared.journals.Event.TheVariants as events
use Rattle.flow_model.specs.Setup.{Setup}
use Rattle.flow_model.specs.Events.{IsNext}
use Rattle.flow_state.specs.declared.coming.Coming.{Coming}
use Rattle.flow_state.specs.declared.coming.Coming.TheVariants as comings
use Rattle.flow_state.specs.Coming.{IsComing}
use Rattle.flow_state.specs.States.{setup_at}
use Rattle.flow_model.specs.Waits.{Blocks}
use Rattle.flux_audit.proofs.Checking.{first_path, first_wait, off_next, lowest_none, lowest_some}
use Rattle.flux_audit.proofs.entries.check_wait.Goals as goal

pub returns-then-not-same_coming : goal.returns-then-not-same_coming
returns-then-not-same_coming g c =
    let setup : Setup = setup_at g.L.Meaning.meaning c.args.state.now in
    let before = c.args.state.now.entries in
    first_path setup before c.args.flow c.requires (events.Wait c.args.key c.args.mode) (λ path.
    (off_next setup before c.args.flow c.next.result (comings.Take c.args.key c.args.mode) (events.Take c.args.key c.args.mode) c.next.ensures
    (λ e. let t = c.if-not-same_coming.ensures.1 e in absurd cc) refl path.0))

pub returns-then-stands : goal.returns-then-stands
returns-then-stands g c =
    let setup : Setup = setup_at g.L.Meaning.meaning c.args.state.now in
    let before = c.args.state.now.entries in
    let standing = c.if-stands.ensures in
    first_path setup before c.args.flow c.requires (events.Wait c.args.key c.args.mode)
    (λ path. path.1 standing.key standing.mode standing.place standing.stands)

pub blocker-requires : goal.blocker-requires
blocker-requires g c =
    let setup : Setup = setup_at g.L.Meaning.meaning c.args.state.now in
    let before = c.args.state.now.entries in
    let next : IsNext setup before c.args.flow.0 (events.Take c.args.key c.args.mode) =
    subst (λ (x : Coming). IsComing setup before c.args.flow.0 x) (c.if-not-same_coming.ensures.0 refl) c.next.ensures.is in
    next

pub returns-then-is_none : goal.returns-then-is_none
returns-then-is_none g c =
    let setup : Setup = setup_at g.L.Meaning.meaning c.args.state.now in
    let before = c.args.state.now.entries in
    let next : IsNext setup before c.args.flow.0 (events.Take c.args.key c.args.mode) =
    subst (λ (x : Coming). IsComing setup before c.args.flow.0 x) (c.if-not-same_coming.ensures.0 refl) c.next.ensures.is in
    let none = lowest_none (λ other. Blocks before other c.args.flow.0 c.args.key c.args.mode) c.blocker.result c.blocker.ensures (sym c.if-is_none.ensures) in
    first_wait setup before c.args.flow c.requires c.args.key c.args.mode next c.if-stands.ensures (λ cause. none cause.0 cause.1)

pub wait-requires : goal.wait-requires
wait-requires g c =
    let setup : Setup = setup_at g.L.Meaning.meaning c.args.state.now in
    let before = c.args.state.now.entries in
    let next : IsNext setup before c.args.flow.0 (events.Take c.args.key c.args.mode) =
    subst (λ (x : Coming). IsComing setup before c.args.flow.0 x) (c.if-not-same_coming.ensures.0 refl) c.next.ensures.is in
    let some = lowest_some (λ other. Blocks before other c.args.flow.0 c.args.key c.args.mode) c.blocker.result c.blocker.ensures (sym c.if-is_none.ensures) in
    record {
      next = next;
      blocked = (some.0, record { key = c.args.key; mode = c.args.mode; next = next; blocked = some.1 });
      once = c.if-stands.ensures;
    }

pub returns : goal.returns
returns g c =
    let adds = c.in_ok-wait.ensures.ok in adds.new_
