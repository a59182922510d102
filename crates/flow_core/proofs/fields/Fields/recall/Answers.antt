use Rattle.std.proofs.Common.{sym, ap, ◌∙◌, Some}
use Rattle.std.specs.Option.{option_map}
use Rattle.flow_core.specs.Moves.{job_of}
use Rattle.flow_core.specs.steps.Fields.{core_of}
use Rattle.flow_core.proofs.Moved.{begun-in, begun-read}
use Rattle.flow_core.proofs.fields.Fields.recall.Goals as goal

pub job-requires-clause-next : goal.job-requires-clause-next
job-requires-clause-next g c =
    begun-in g.L.Meaning.meaning c.args.self.now c.requires.fields c.args.flow c.in-Some.begun
    (begun-read g.L.Meaning.meaning c.args.self.now c.requires.fields c.args.flow.0 c.index.result.now c.requires.flow
    c.index.ensures ∙ c.in-Some.is)

pub returns-in_ok-job-in-Some : goal.returns-in_ok-job-in-Some
returns-in_ok-job-in-Some g c =
    ap Some c.in_ok-job-in-Some.ensures
    ∙ ap (λ o. option_map (job_of g.L.Meaning.meaning (core_of c.args.self.now) (core_of c.args.self.now) c.args.flow)
    o)
    (sym (begun-read g.L.Meaning.meaning c.args.self.now c.requires.fields c.args.flow.0 c.index.result.now
    c.requires.flow c.index.ensures ∙ c.in-Some.is))

pub returns-in-None : goal.returns-in-None
returns-in-None g c =
    ap (λ o. option_map (job_of g.L.Meaning.meaning (core_of c.args.self.now) (core_of c.args.self.now) c.args.flow) o)
    (sym (begun-read g.L.Meaning.meaning c.args.self.now c.requires.fields c.args.flow.0 c.index.result.now
    c.requires.flow c.index.ensures ∙ c.in-None.is))
