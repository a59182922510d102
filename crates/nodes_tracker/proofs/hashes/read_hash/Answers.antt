use Rattle.std.proofs.Common.{◌+◌, ◌*◌, ◌∙◌, ℕ, List, drop, ap, arith}
use Rattle.nodes_tracker.specs.Asks.{hex_bytes}
use Rattle.nodes_tracker.proofs.HashBytes.{behind_bytes, byte_more}
use Rattle.nodes_tracker.proofs.hashes.read_hash.Goals as goal

pub loop-place-preserved : goal.loop-place-preserved
loop-place-preserved c =
    let l = c.loop-place in
    let items = c.in_ok-push-in-Some-Some.ensures.items in
    let forty = c.if-text-ne40.false in
    record {
      so = ap (λ (bytes : List ℕ). behind_bytes bytes (hex_bytes (drop (2 * (l.place + 1)) c.args.text.now))) items
          ∙ byte_more c.args.text.now l.hash.items l.place c.in-Some-Some.high c.in-Some-Some.low (omega (arith, forty))
          l.invariant.so c.in-Some-Some.ensures c.in-Some-Some.ensures';
      long = omega (arith, c.in_ok-push-in-Some-Some.ensures.len, l.invariant.long);
    }
