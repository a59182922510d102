use Rattle.std.proofs.Common.{◌≡◌, ◌<◌, arith, get_or, length, subst}
use Rattle.std.proofs.lemmas.List.{take_rest}
use Rattle.bencoding.proofs.Rising.{IsLevel, bytes_from, end_rises, greater_rises, less_stops, same_stops, whole_rises}
use Rattle.bencoding.proofs.keys.first_stop.Goals as goal

pub returns-then-at-key : goal.returns-then-at-key
returns-then-at-key c = end_rises c.args.key.now c.args.front.now c.args.long c.loop-at.at
    (bytes_from c.args.front.now (λ k. (c.type_inv.front k).fits)) c.requires.limit c.requires.fits c.loop-at-test.true
    c.loop-at.invariant c.if-at-key.true

pub returns-then-front-at : goal.returns-then-front-at
returns-then-front-at c =
    let there : c.loop-at.at < length c.args.key.now = omega (arith, c.if-at-key.false, c.loop-at.invariant.within) in
    greater_rises c.args.key.now c.args.front.now c.args.long c.loop-at.at
    (bytes_from c.args.front.now (λ k. (c.type_inv.front k).fits)) c.requires.limit c.requires.fits
    c.loop-at-test.true there c.loop-at.invariant c.if-front-at.true

pub returns-then-front-at-2 : goal.returns-then-front-at-2
returns-then-front-at-2 c =
    let there : c.loop-at.at < length c.args.key.now = omega (arith, c.if-at-key.false, c.loop-at.invariant.within) in
    less_stops c.args.key.now c.args.front.now c.args.long c.loop-at.at
    (bytes_from c.args.key.now (λ k. (c.type_inv.key k).fits))
    (bytes_from c.args.front.now (λ k. (c.type_inv.front k).fits)) c.requires.limit c.loop-at-test.true there
    c.loop-at.invariant c.if-front-at-2.true

pub returns-then-long-at : goal.returns-then-long-at
returns-then-long-at c =
    let there : c.loop-at.at < length c.args.key.now = omega (arith, c.if-at-key.false, c.loop-at.invariant.within) in
    let same : get_or c.args.front.now c.loop-at.at 0 ≡ get_or c.args.key.now c.loop-at.at 0 =
    omega (arith, c.if-front-at.false, c.if-front-at-2.false) in
    let found = rw take_rest at c.run_length.ensures.same in
    same_stops c.args.key.now c.args.front.now c.args.long c.loop-at.at
    (bytes_from c.args.key.now (λ k. (c.type_inv.key k).fits))
    (bytes_from c.args.front.now (λ k. (c.type_inv.front k).fits)) c.requires.limit c.loop-at-test.true there
    c.loop-at.invariant same (omega (arith, c.if-long-at.true, found))

pub returns : goal.returns
returns c =
    let end : c.loop-at.at ≡ length c.args.front.now = omega (arith, c.loop-at-test.false, c.loop-at.auto.at-end) in
    whole_rises c.args.key.now c.args.front.now c.args.long (bytes_from c.args.key.now (λ k. (c.type_inv.key k).fits))
    (bytes_from c.args.front.now (λ k. (c.type_inv.front k).fits)) c.requires.limit
    (subst (IsLevel c.args.key.now c.args.front.now c.args.long) end c.loop-at.invariant)
