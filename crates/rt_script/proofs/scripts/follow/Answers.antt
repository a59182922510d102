use Rattle.std.proofs.Common.{◌≡◌, sym, ap, subst, take, get_or, length, ◌<◌, arith}
use Rattle.std.proofs.lemmas.List.{take_more}
use Rattle.std.proofs.lemmas.Result.{on_ok_weaker}
use Rattle.flow_core.specs.States.{setup_in}
use Rattle.flow_orders.specs.Follow.{IsFollow}
use Rattle.rt_script.proofs.Following.{IsFollowing, following-more, followed, take-all}
use Rattle.rt_script.proofs.scripts.follow.Goals as goal

pub loop-number-preserved : goal.loop-number-preserved
loop-number-preserved g c =
    let items = c.as_slice-number-items.result.now in
    let same : items ≡ c.args.numbers.now = c.as_slice-number-items.ensures in
    let flow = get_or items c.loop-number.number-index (record { 0 = 0 }) in
    let within : c.loop-number.number-index < length c.args.numbers.now =
    omega (arith, c.loop-number-test.true, ap length same) in
    subst (IsFollowing g.L.Meaning.meaning c.args.core.now c.give_turn.new.core)
    (sym (take_more c.args.numbers.now c.loop-number.number-index (record { 0 = 0 }) within))
    (following-more g.L.Meaning.meaning c.args.core.now c.loop-number.core
    (take c.loop-number.number-index c.args.numbers.now) c.loop-number.invariant c.give_turn.new.core
    (get_or c.args.numbers.now c.loop-number.number-index (record { 0 = 0 }))
    c.give_turn.ensures.others.setting (rw same at c.in_ok-give_turn.ensures.ok))

pub returns-clause-ok : goal.returns-clause-ok
returns-clause-ok g c =
    on_ok_weaker c.drain_by.result (λ drains. subst (λ numbers. IsFollow (setup_in g.L.Meaning.meaning c.args.core.now)
    c.args.core.now.entries numbers c.drain_by.new.core.entries)
    (take-all c.loop-number.number-index c.args.numbers.now
    (omega (arith, c.loop-number-test.false, ap length c.as_slice-number-items.ensures)))
    (followed g.L.Meaning.meaning c.args.core.now c.loop-number.core
    (take c.loop-number.number-index c.args.numbers.now) c.loop-number.invariant c.drain_by.new.core drains))
    c.drain_by.ensures.ok
