use denote.Param.Send.{sendable}
use Rattle.std.proofs.Common.{ℕ, ◌<◌, sym, subst}
use Rattle.flux_serve.proofs.serving_at_once.serve_at_once.Goals as goal

pub serve_batches-requires-clause-drives : goal.serve_batches-requires-clause-drives
serve_batches-requires-clause-drives g c κs within p p' q q' opening number result none few post =
    let some = post.1 in
    let outs = some.1 in
    let opens = outs.1 in
    let laters = opens.1 in
    let bounds = laters.1 in
    let runs = bounds.1 in
    record {
      again = λ s d cells n same free fits. (c.requires.can, (c.requires.any, (subst (λ (w : ℕ). 0 < w) (sym same) some.0, (free, (fits, search sendable depth 60)))));
      out_ = outs.0;
      open_ = opens.0;
      later = laters.0;
      bound = bounds.0;
      ran = runs.0;
      none = runs.1;
    }
