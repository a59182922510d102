use Rattle.flux_batches.specs.declared.spans.Span.{Span}
use Rattle.flux_batches.proofs.Spanning.{span-all}
use Rattle.flux_batches.proofs.spans.spanned.Goals as goal

pub returns : goal.returns
returns c =
    let none : Span = record { from = 0; to = 0 } in
    span-all c.args.entries.now c.args.flow.0 _ (c.requires.spans c.args.flow.0 none c.requires.bound)
