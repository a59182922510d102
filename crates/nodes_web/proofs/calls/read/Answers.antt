use Rattle.std.proofs.Common.{IfOk, ◌≡◌, subst, arith}
use Rattle.flux_values.specs.declared.answers.Answer.{Answer}
use Rattle.nodes_web.specs.steps.Deciding.{front_of}
use Rattle.nodes_web.proofs.Parts.{method_fits, path_fits, asked_answer, no_answer}
use Rattle.nodes_web.proofs.calls.read.Goals as goal

pub two-requires-clause-first : goal.two-requires-clause-first
two-requires-clause-first c = omega (arith, c.requires, method_fits c.args.text.now c.in-Some.request.method.now c.in-Some.request.path.now c.in-Some.ensures.asked)

pub two-requires-clause-second : goal.two-requires-clause-second
two-requires-clause-second c = omega (arith, c.requires, path_fits c.args.text.now c.in-Some.request.method.now c.in-Some.request.path.now c.in-Some.ensures.asked)

pub returns-in-Some : goal.returns-in-Some
returns-in-Some c =
    subst (λ (wanted : Answer). IfOk c.two.result (λ answer. answer ≡ wanted))
    (asked_answer c.args.text.now c.in-Some.request.method.now c.in-Some.request.path.now c.in-Some.ensures.asked (front_of c.args.text.now)) c.two.ensures

pub returns-in-None : goal.returns-in-None
returns-in-None c =
    subst (λ (wanted : Answer). IfOk c.fails.result (λ answer. answer ≡ wanted))
    (no_answer c.args.text.now c.in-None.ensures.none (front_of c.args.text.now)) c.fails.ensures
