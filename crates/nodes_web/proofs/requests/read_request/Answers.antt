use Rattle.std.proofs.Common.{ap, sym, ◌∙◌, arith}
use Rattle.nodes_web.specs.Requests.{path_of}
use Rattle.nodes_web.proofs.Front.{is_front, serves, nothing_else}
use Rattle.nodes_web.proofs.requests.read_request.Goals as goal

pub returns-then-may_serve-clause-asked : goal.returns-then-may_serve-clause-asked
returns-then-may_serve-clause-asked c =
    let text = c.args.text.now in
    let headers = c.parse_request.new.headers in
    let spans = c.in-Ok-Complete.head in
    let found = rw c.in-Ok-Complete.field-0-is at c.in-Ok-Complete.ensures.complete in
    record {
      head = found.0;
      front = is_front text headers spans found.0 (omega (arith, c.parse_request.auto.headers)) found.1;
      served = serves text headers spans found.0 c.of-target.result.now c.count_hosts-hosts.result _ found.1 c.of-target.ensures c.count_hosts-hosts.ensures (sym c.if-may_serve.true ∙ c.may_serve.ensures);
      method_ = c.of.ensures ∙ found.1.method;
      path_ = c.path_of.ensures ∙ ap path_of (c.of-target.ensures ∙ found.1.path);
    }

pub returns-else-may_serve-clause-none : goal.returns-else-may_serve-clause-none
returns-else-may_serve-clause-none c =
    let text = c.args.text.now in
    let headers = c.parse_request.new.headers in
    let spans = c.in-Ok-Complete.head in
    let found = rw c.in-Ok-Complete.field-0-is at c.in-Ok-Complete.ensures.complete in
    nothing_else text found.0 (is_front text headers spans found.0 (omega (arith, c.parse_request.auto.headers)) found.1)
    (serves text headers spans found.0 c.of-target.result.now c.count_hosts-hosts.result _ found.1 c.of-target.ensures c.count_hosts-hosts.ensures (sym c.if-may_serve.false ∙ c.may_serve.ensures))
