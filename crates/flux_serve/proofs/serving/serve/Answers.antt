use denote.Param.Members.{lentᵐ}
use Rattle.std.proofs.Common.{refl, [], arith}
use Rattle.flux_serve.proofs.serving.serve.Goals as goal

pub returns-clause-again : goal.returns-clause-again
returns-clause-again g c =
    let may = c.serve_by.ensures.again (lentᵐ c.serve_by.new.state) [] [] refl tt (omega arith) in
    may.0
