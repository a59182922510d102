use denote.Param.Members.{lentᵐ}
use denote.Param.Send.{sendable}
use Rattle.std.proofs.Common.{refl, ◌∙◌, [], arith}
use Rattle.flux_cells.specs.Kept.{cells_of}
use Rattle.flux_serve.specs.Ends.{sight_of}
use Rattle.flux_serve.specs.steps.Batches.{service_in}
use Rattle.flux_serve.proofs.AtOnceDriven.{none_at_once}
use Rattle.flux_serve.proofs.serving.serve_by.Goals as goal

pub serve_batches-requires-clause-drives : goal.serve_batches-requires-clause-drives
serve_batches-requires-clause-drives g c κs within p p' q q' opening number result none few post =
    let see = g.D.Link.Link.seen in
    let all = post.1 in
    let outs = all.1 in
    let opens = outs.1 in
    let laters = opens.1 in
    let bounds = laters.1 in
    let runs = bounds.1 in
    record {
      again = λ s d cells n same free fits. (λ t items from at are small. all.0 t items from (at ∙ same) are small, (c.requires.runs, (free, (fits, search sendable depth 60))));
      out_ = outs.0;
      open_ = opens.0;
      later = laters.0;
      bound = bounds.0;
      ran = runs.0;
      none = λ log. none_at_once see (service_in g.L.Meaning.meaning c.args.served.now) (cells_of opening) number
          (sight_of (g.D.Door.seen q.now) log)
          (sight_of (g.D.Door.seen q'.now) log) result (runs.1 log);
    }

pub returns-clause-again : goal.returns-clause-again
returns-clause-again g c =
    let may = c.serve_batches.ensures.again (lentᵐ c.serve_batches.new.state) (lentᵐ c.serve_batches.new.door) [] 0 refl c.serve_batches.ensures.out (omega arith) in
    may.0

pub returns-clause-served : goal.returns-clause-served
returns-clause-served g c = c.serve_batches.ensures.before (λ p p' q q' opening number result none few post.
    let all = post.1 in
    let outs = all.1 in
    let opens = outs.1 in
    let laters = opens.1 in
    let bounds = laters.1 in
    let runs = bounds.1 in
    record {
      again = λ s d cells n same free fits. (λ t items from at are small. all.0 t items from (at ∙ same) are small, (c.requires.runs, (free, (fits, search sendable depth 60))));
      out_ = outs.0;
      open_ = opens.0;
      later = laters.0;
      bound = bounds.0;
      ran = runs.0;
      none = runs.1;
    })
