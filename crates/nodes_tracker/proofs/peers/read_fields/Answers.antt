use Rattle.std.proofs.Common.{length}
use Rattle.bencoding.specs.Trees.{dictionary}
use Rattle.nodes_tracker.proofs.Trees.{stands_alone, fields_whole, fields_short}
use Rattle.nodes_tracker.proofs.peers.read_fields.Goals as goal

pub returns-in-Err-BadBen : goal.returns-in-Err-BadBen
returns-in-Err-BadBen c other is e =
    let none = rw c.in-Err-BadBen.field-0-is at c.in-Err-BadBen.ensures.value in
    none (dictionary other) (length c.args.text.now) (stands_alone c.args.text.now other is e)

pub returns-then-length-text : goal.returns-then-length-text
returns-then-length-text c other is e =
    fields_short c.args.text.now c.in-Ok.read.0 c.in-Ok.read.1 (λ t m b. c.in-Ok.ensures.value t m b)
    c.if-length-text.true other is e

pub returns : goal.returns
returns c =
    fields_whole c.args.text.now c.in-Ok.read.0 c.in-Ok.read.1 c.fields_in.result c.in-Ok.ensures.cause
    (λ t m b. c.in-Ok.ensures.value t m b) c.if-length-text.false c.fields_in.ensures
