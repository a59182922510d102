use Rattle.std.proofs.Common.{◌∙◌, arith, None}
use Rattle.nodes_counter.specs.laws.Spellings.{spelled_exactly}
use Rattle.nodes_counter.proofs.Spelled.{refused, left_over, to_the_end}
use Rattle.nodes_counter.proofs.commands.spelled_int.Goals as goal

pub returns-in-Err-BadValue-clause-value : goal.returns-in-Err-BadValue-clause-value
returns-in-Err-BadValue-clause-value c =
    refused c.args.bytes.now c.in-Err-BadValue.field-0 (λ e. absurd cc) c.in-Err-BadValue.ensures.value

pub returns-in-Err-BadValue-clause-spelling : goal.returns-in-Err-BadValue-clause-spelling
returns-in-Err-BadValue-clause-spelling c =
    spelled_exactly c.args.bytes.now None (refused c.args.bytes.now c.in-Err-BadValue.field-0 (λ e. absurd cc) c.in-Err-BadValue.ensures.value)

pub returns-then-length-bytes-clause-value : goal.returns-then-length-bytes-clause-value
returns-then-length-bytes-clause-value c =
    left_over c.args.bytes.now c.in-Ok.read.0 c.in-Ok.read.1 c.in-Ok.ensures.value (omega (arith, c.if-length-bytes.true))

pub returns-then-length-bytes-clause-spelling : goal.returns-then-length-bytes-clause-spelling
returns-then-length-bytes-clause-spelling c =
    spelled_exactly c.args.bytes.now None (left_over c.args.bytes.now c.in-Ok.read.0 c.in-Ok.read.1 c.in-Ok.ensures.value (omega (arith, c.if-length-bytes.true)))

pub returns-clause-value : goal.returns-clause-value
returns-clause-value c =
    c.number_of.ensures ∙ to_the_end c.args.bytes.now c.in-Ok.read.0 c.in-Ok.read.1 c.in-Ok.ensures.value c.in-Ok.ensures.cause (omega (arith, c.if-length-bytes.false))
