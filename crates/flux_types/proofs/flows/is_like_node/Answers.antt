use Rattle.flux_model.specs.Kinds.{sig_at}
use Rattle.flux_types.specs.Rows.{word_sig}
use Rattle.flux_types.proofs.Lasts.{like_by_ends}
use Rattle.flux_types.proofs.flows.is_like_node.Goals as goal

pub returns-in-len1-up : goal.returns-in-len1-up
returns-in-len1-up c =
    let sigs = word_sig c.args.signed.now.names (sig_at c.args.signed.now.sigs.now) in
    like_by_ends sigs (sigs c.args.name.now) c.args.members.now c.first-item.result c.last_of-last.result.now c.are_ends.result
    c.in-len1-up.len_at_least c.first-item.is c.last_of-last.ensures cc
