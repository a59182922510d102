use Rattle.std.proofs.Common.{refl, subst}
use Rattle.flow_state.specs.declared.coming.Coming.{Coming}
use Rattle.flow_state.specs.Coming.{IsComing, Comes}
use Rattle.flow_state.specs.States.{setup_at}
use Rattle.flow_model.specs.Setup.{Setup}
use Rattle.flux_audit.proofs.Checking.{first_path, off_path, next_of, may_plain, made_is}
use Rattle.flux_audit.proofs.entries.check_plain.Goals as goal

pub make-requires-clause-comes : goal.make-requires-clause-comes
make-requires-clause-comes g c =
    subst (λ (x : Coming). Comes (setup_at g.L.Meaning.meaning c.args.state.now) c.args.state.now.entries c.args.flow.0 x)
    (c.if-not-same_coming.ensures.0 refl) c.next.ensures

pub make-requires-clause-may : goal.make-requires-clause-may
make-requires-clause-may g c =
    let setup : Setup = setup_at g.L.Meaning.meaning c.args.state.now in
    let before = c.args.state.now.entries in
    may_plain setup before c.args.flow c.args.coming c.requires.plain
    (subst (λ (x : Coming). IsComing setup before c.args.flow.0 x) (c.if-not-same_coming.ensures.0 refl) c.next.ensures.is)

pub returns : goal.returns
returns g c event is =
    let setup : Setup = setup_at g.L.Meaning.meaning c.args.state.now in
    let before = c.args.state.now.entries in
    made_is g.L.Meaning.meaning c.args.state.now c.make.new.self c.args.flow event c.in_ok-make.ensures.ok
    (next_of setup before c.args.flow c.args.coming event
    (subst (λ (x : Coming). IsComing setup before c.args.flow.0 x) (c.if-not-same_coming.ensures.0 refl) c.next.ensures.is) is)

pub returns-then-not-same_coming : goal.returns-then-not-same_coming
returns-then-not-same_coming g c event is =
    let setup : Setup = setup_at g.L.Meaning.meaning c.args.state.now in
    let before = c.args.state.now.entries in
    first_path setup before c.args.flow c.requires.flow event
    (off_path setup before c.args.flow c.next.result c.args.coming event c.requires.plain c.next.ensures
    (λ e. let t = c.if-not-same_coming.ensures.1 e in absurd cc) is)
