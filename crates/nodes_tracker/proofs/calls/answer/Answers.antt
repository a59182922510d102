use Rattle.std.proofs.Common.{◌≤◌, length, ap, sym, subst, arith}
use Rattle.bencoding.specs.Trees.{Tree, spelling}
use Rattle.nodes_tracker.specs.laws.Sizes.{announce_short}
use Rattle.nodes_tracker.proofs.calls.answer.Goals as goal

pub printed-requires : goal.printed-requires
printed-requires c =
    let few : length c.deref.result.now ≤ 1001 = omega (arith, c.requires.few.few, ap length c.deref.ensures.value) in
    let le = announce_short c.deref.result.now c.args.shown few c.requires.shown in
    subst (λ (t : Tree). length (spelling t) ≤ 65536) (sym c.in_ok-reply.ensures) (omega (arith, le))
