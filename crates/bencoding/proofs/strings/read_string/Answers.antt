use Rattle.std.proofs.Common.{length, subst, ap, arith, option_map}
use Rattle.std.proofs.lemmas.List.{take_rest}
use Rattle.bencoding.specs.steps.Places.{IsStuck}
use Rattle.bencoding.specs.steps.Numbers.{IsEnded, AreEnded}
use Rattle.bencoding.specs.steps.Keys.{Rises, IsStop}
use Rattle.bencoding.proofs.StringsRead.{length_stuck, key_stuck, short_stuck, key_read}
use Rattle.bencoding.proofs.strings.read_string.Goals as goal

pub returns-in-Err : goal.returns-in-Err
returns-in-Err c =
    let before = option_map (λ key. key.now) c.args.before in
    let bytes = c.args.bytes.now in
    length_stuck before bytes c.in-Err.at c.requires
    (subst (λ n. IsStuck (IsEnded n 65536 58) bytes c.in-Err.at) c.least_length-least.ensures c.in-Err.ensures)

pub returns-in-Some : goal.returns-in-Some
returns-in-Some c =
    let before = option_map (λ key. key.now) c.args.before in
    let bytes = c.args.bytes.now in
    let n = c.in-Ok.read.0 in
    let at = c.in-Ok.read.1 in
    let are = subst (λ m. AreEnded m 65536 58 bytes n at) c.least_length-least.ensures c.in-Ok.ensures in
    let same = rw take_rest at c.front_of-front.ensures.same in
    key_stuck before bytes n at n c.in-Some.stop c.requires are (omega arith)
    (subst (λ l. IsStop before l n c.in-Some.stop) same c.in-Some.ensures)

pub returns-then-front-long : goal.returns-then-front-long
returns-then-front-long c =
    let before = option_map (λ key. key.now) c.args.before in
    let bytes = c.args.bytes.now in
    let n = c.in-Ok.read.0 in
    let at = c.in-Ok.read.1 in
    let are = subst (λ m. AreEnded m 65536 58 bytes n at) c.least_length-least.ensures c.in-Ok.ensures in
    let same = rw take_rest at (c.front_of-front.ensures.short c.if-front-long.true) in
    short_stuck before bytes n at c.requires are (subst (λ l. Rises before l n) same c.in-None.ensures)
    (omega (arith, c.if-front-long.true, ap length same))

pub returns-else-front-long : goal.returns-else-front-long
returns-else-front-long c =
    let before = option_map (λ key. key.now) c.args.before in
    let bytes = c.args.bytes.now in
    let n = c.in-Ok.read.0 in
    let at = c.in-Ok.read.1 in
    let are = subst (λ m. AreEnded m 65536 58 bytes n at) c.least_length-least.ensures c.in-Ok.ensures in
    let same = rw take_rest at c.front_of-front.ensures.same in
    key_read before bytes c.front_of-front.result.now n at are c.in-None.ensures same
    (omega (arith, c.if-front-long.false))
