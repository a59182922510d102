use Rattle.std.proofs.Common.{◌≡◌, Some, arith, length, ap}
use Rattle.std.specs.List.{slice_get}
use Rattle.flux_verify.proofs.Checking.{item_stands}
use Rattle.flux_verify.proofs.Stopping.{code_stops, code_goes_on, code_ends_whole, code_ends_early}
use Rattle.flux_verify.proofs.checks.misshapen_place.Goals.{in-Whole, in_default}
use Rattle.flux_verify.proofs.checks.misshapen_place.Goals as goal

pub returns-in-None : goal.returns-in-None
returns-in-None c =
    let s = c.args.segment.now in let own = c.loop-instr.invariant in
    let at : slice_get s.code c.loop-instr.place ≡ Some c.instr-item.result = item_stands c.as_slice-instr-items.result.now s.code c.loop-instr.instr-index c.loop-instr.place c.instr-item.result c.as_slice-instr-items.ensures own.counted c.loop-instr-test.true c.instr-item.is in
    code_stops s c.loop-instr.reading c.loop-instr.place own.read c.instr-item.result c.in_ok-more.field-0 at c.in_ok-more.ensures c.in-None.is

pub loop-instr-preserved : goal.loop-instr-preserved
loop-instr-preserved c =
    let s = c.args.segment.now in let own = c.loop-instr.invariant in
    let at : slice_get s.code c.loop-instr.place ≡ Some c.instr-item.result = item_stands c.as_slice-instr-items.result.now s.code c.loop-instr.instr-index c.loop-instr.place c.instr-item.result c.as_slice-instr-items.ensures own.counted c.loop-instr-test.true c.instr-item.is in
    record {
      counted = omega (arith, own.counted);
      read = code_goes_on s c.loop-instr.reading c.loop-instr.place own.read c.instr-item.result c.in_ok-more.field-0 c.in-Some.more at c.in_ok-more.ensures c.in-Some.is;
    }

pub returns : goal.returns
returns c =
    let s = c.args.segment.now in let own = c.loop-instr.invariant in
    let size = ap length c.as_slice-instr-items.ensures in
    let end : c.loop-instr.place ≡ length s.code = omega (arith, own.counted, c.loop-instr-test.false, c.loop-instr.auto.instr-index-end, size) in
    elim c.match-reading.branch [
      | in-Whole w ↦ rw w.result-is (code_ends_whole s c.loop-instr.reading c.loop-instr.place own.read end w.in-Whole.is)
      | in_default w ↦ rw w.result-is (code_ends_early s c.loop-instr.reading c.loop-instr.place own.read end w.in_default.not-Whole)
    ]
