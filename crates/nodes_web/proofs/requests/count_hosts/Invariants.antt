use Rattle.std.proofs.Common.{◌≡◌, ◌≤◌, take}
use Rattle.std.specs.List.{count_by}
use Rattle.httparse.specs.Spans.{span_bytes}
use Rattle.nodes_web.specs.Requests.{is_host}
use Rattle.nodes_web.proofs.requests.count_hosts.Given as goal

abbrev pub invariant-loop-field : goal.invariant-loop-field
invariant-loop-field l =
    (l.count ≡ count_by (λ f. is_host (span_bytes l.text f.name)) (take l.field-index l.fields)) × (l.count ≤ l.field-index)
