use Rattle.std.proofs.Common.{◌≡◌, ◌≤◌, true, [], length, take, sym, ◌∙◌, arith}
use Rattle.std.proofs.lemmas.List.{length-take-le}
use Rattle.flux_doors.specs.Texts.{ends, has_front, limit_of}
use Rattle.flux_batches.proofs.Filled.{filled-more, filled-fits, read-found, some-limit, ended-some, unended-read}
use Rattle.flux_batches.proofs.reading.fill.Goals as goal

pub reads-preserved : goal.reads-preserved
reads-preserved g c =
    let read = c.in_ok-count.ensures in
    let before = c.reads.invariant in (
      filled-more (g.K.Link.seen c.args.link.now).left (g.K.Link.seen c.reads.link).left (g.K.Link.seen c.read.new.self).left c.reads.buffer c.read.new.buffer _ c.reads.filled c.in_ok-count.count before.1 read.bound.0 before.0 read.bytes.0,
      filled-fits c.reads.buffer c.read.new.buffer _ c.reads.filled c.in_ok-count.count before.1 read.bound.0,
      read.written ∙ before.2,
      read.cause.steady ∙ before.3,
      c.read.ensures.same ∙ before.4,
      λ some. unended-read c.args.framing (g.K.Link.seen c.args.link.now).left (g.K.Link.seen c.reads.link).left (g.K.Link.seen c.read.new.self).left_before c.reads.buffer c.reads.filled
          before.0 c.read.ensures.before before.1 (omega (arith, c.requires, c.reads.auto.buffer, c.reads-test.true))
          (sym c.ends_in.ensures ∙ c.if-ends_in.false),
    )

pub returns-then-ends_in-clause-text : goal.returns-then-ends_in-clause-text
returns-then-ends_in-clause-text g c =
    let xs = take c.reads.filled c.reads.buffer in
    let fits : length xs ≤ limit_of c.args.framing = omega (arith, length-take-le c.reads.filled c.reads.buffer c.reads.invariant.1, c.requires, c.reads.auto.buffer, c.reads.invariant.1) in
    let has : has_front (ends c.args.framing) [] xs ≡ true = sym c.ends_in.ensures ∙ c.if-ends_in.true in
    read-found c.args.framing (g.K.Link.seen c.args.link.now).left (g.K.Link.seen c.reads.link).left xs c.reads.invariant.0 fits has

pub returns-then-ends_in-clause-unended : goal.returns-then-ends_in-clause-unended
returns-then-ends_in-clause-unended g c =
    let before = c.reads.invariant in before.5 (ended-some c.args.framing c.reads.buffer c.reads.filled (sym c.ends_in.ensures ∙ c.if-ends_in.true))

pub returns-in_err-count-clause-unended : goal.returns-in_err-count-clause-unended
returns-in_err-count-clause-unended g c =
    let before = c.reads.invariant in
    unended-read c.args.framing (g.K.Link.seen c.args.link.now).left (g.K.Link.seen c.reads.link).left (g.K.Link.seen c.read.new.self).left_before c.reads.buffer c.reads.filled
    before.0 c.read.ensures.before before.1 (omega (arith, c.requires, c.reads.auto.buffer, c.reads-test.true)) (sym c.ends_in.ensures ∙ c.if-ends_in.false)

pub returns-then-count-eq0-clause-unended : goal.returns-then-count-eq0-clause-unended
returns-then-count-eq0-clause-unended g c =
    let before = c.reads.invariant in
    unended-read c.args.framing (g.K.Link.seen c.args.link.now).left (g.K.Link.seen c.reads.link).left (g.K.Link.seen c.read.new.self).left_before c.reads.buffer c.reads.filled
    before.0 c.read.ensures.before before.1 (omega (arith, c.requires, c.reads.auto.buffer, c.reads-test.true)) (sym c.ends_in.ensures ∙ c.if-ends_in.false)

pub returns-clause-unended : goal.returns-clause-unended
returns-clause-unended g c =
    let before = c.reads.invariant in before.5 (omega (arith, some-limit c.args.framing, c.requires, c.reads.auto.buffer, c.reads-test.false))
