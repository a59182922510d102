use Rattle.std.proofs.Common.{◌∙◌}
use Rattle.nodes_web.proofs.Joined.{head_joined}
use Rattle.nodes_web.proofs.replies.append_head.Goals as goal

pub returns : goal.returns
returns c =
    head_joined c.append_line-5.result c.args.out.now c.as_bytes.result.now c.args.kind.now c.as_bytes-2.result.now _ _ _ _ _ _ c.args.status c.args.size
    (c.as_bytes.ensures.value ∙ c.in_ok-to_string.ensures.ok) (c.as_bytes-2.ensures.value ∙ c.in_ok-to_string-2.ensures.ok)
    c.in_ok-append_line.ensures c.in_ok-append_allowed.ensures c.in_ok-append_line-2.ensures c.in_ok-append_line-3.ensures c.in_ok-append_line-4.ensures c.append_line-5.ensures
