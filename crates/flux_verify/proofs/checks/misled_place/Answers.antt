use Rattle.std.proofs.Common.{◌≡◌, ◌≤◌, Some, true, false, length, ap, sym, ◌∙◌, arith}
use Rattle.std.specs.List.{slice_get}
use Rattle.flux_verify.proofs.Checking.{item_stands, misled_later, misled_end}
use Rattle.flux_verify.proofs.checks.misled_place.Goals as goal

pub loop-instr-preserved : goal.loop-instr-preserved
loop-instr-preserved c =
    let s = c.args.segment.now in let own = c.loop-instr.invariant in
    let at : slice_get s.code c.loop-instr.place ≡ Some c.instr-item.result = item_stands c.as_slice-instr-items.result.now s.code c.loop-instr.instr-index c.loop-instr.place c.instr-item.result c.as_slice-instr-items.ensures own.counted c.loop-instr-test.true c.instr-item.is in
    record {
      counted = omega (arith, own.counted);
      none = misled_later c.args.segments.now c.args.takes.now s c.loop-instr.place c.instr-item.result at (λ misled. let tells = c.in_ok-is_misled.ensures in let so = tells.1 misled in let e : true ≡ false = sym so ∙ c.if-branch.false in cc) own.none;
    }

pub returns : goal.returns
returns c =
    let s = c.args.segment.now in let own = c.loop-instr.invariant in
    let size = ap length c.as_slice-instr-items.ensures in
    let end : length s.code ≤ c.loop-instr.place = omega (arith, own.counted, c.loop-instr-test.false, size) in
    misled_end c.args.segments.now c.args.takes.now s c.loop-instr.place end own.none
