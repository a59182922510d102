use Rattle.std.proofs.Common.{length, arith, length-append}
use Rattle.flux_compile.proofs.Parts.{length-opening}
use Rattle.flux_compile.proofs.soundness.Sizes.{length_body}
use Rattle.flux_compile.proofs.segments.segment_of.Goals as goal

pub add_body-requires : goal.add_body-requires
add_body-requires c =
    let opening = length-opening c.args.holds.now c.add.new.self (rw (c.in_ok-add_takes.ensures, c.new-code.ensures) at c.in_ok-add.ensures.added) in
    omega (arith, opening, c.requires.few, c.requires.parts)

pub overflow_cast-exit : goal.overflow_cast-exit
overflow_cast-exit c =
    let opening = length-opening c.args.holds.now c.add.new.self (rw (c.in_ok-add_takes.ensures, c.new-code.ensures) at c.in_ok-add.ensures.added) in
    let body = length_body (length c.add.new.self) c.args.node.now.body in
    rw (c.len-exit.ensures, c.in_ok-add_body.ensures, length-append, body, opening) (omega (arith, c.requires.few, c.requires.parts))
