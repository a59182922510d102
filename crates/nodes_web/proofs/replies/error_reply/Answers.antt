use Rattle.std.proofs.Common.{◌∙◌}
use Rattle.nodes_web.proofs.Joined.{error_joined}
use Rattle.nodes_web.proofs.replies.error_reply.Goals as goal

pub returns : goal.returns
returns c =
    error_joined c.reply.result c.as_bytes-2.result.now c.append.new.self c.in_ok-body.body c.as_bytes.result.now c.args.status c.args.whole
    c.as_bytes-2.ensures c.in_ok-append.ensures.added c.in_ok-body.ensures (c.as_bytes.ensures.value ∙ c.in_ok-to_string.ensures.ok) c.reply.ensures
