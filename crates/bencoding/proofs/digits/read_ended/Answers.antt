use Rattle.std.proofs.Common.{◌≡◌, ◌<◌, arith, get_or, length}
use Rattle.bencoding.proofs.DigitsRead.{ended_stuck}
use Rattle.bencoding.proofs.digits.read_ended.Goals.{else-at-bytes-via-then-at-bytes+else-bytes-at, else-at-bytes-via-else-at-bytes}
use Rattle.bencoding.proofs.digits.read_ended.Goals as goal

pub returns-else-at-bytes : goal.returns-else-at-bytes
returns-else-at-bytes c =
    let other : c.in_ok-number.at < length c.args.bytes.now → get_or c.args.bytes.now c.in_ok-number.at 0 ≡ c.args.end
    → ⊥ = λ lt same. elim c.else-at-bytes.branch [
      | else-at-bytes-via-then-at-bytes+else-bytes-at w ↦ w.if-bytes-at.false same
      | else-at-bytes-via-else-at-bytes w ↦ omega (arith, w.if-at-bytes.false, lt)
    ] in
    ended_stuck c.args.bytes.now c.args.low c.args.high c.args.end c.in_ok-number.number c.in_ok-number.at
    c.ranges.high.fits c.requires c.in_ok-number.ensures other
