use Rattle.std.proofs.Common.{refl}
use Rattle.flux_verify.proofs.Checking.{tells_open}
use Rattle.flux_verify.proofs.checks.is_open.Goals as goal

pub returns : goal.returns
returns c = tells_open c.args.segments.now c.args.takes.now c.args.inner.0 c.in_ok-reached.reached c.args.inner c.lacks_among.result refl c.in_ok-reached.ensures c.lacks_among.ensures
