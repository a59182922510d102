use Rattle.std.proofs.Common.{◌∙◌, Vec, Global, sym, ap, subst, arith}
use Rattle.std.specs.Option.{option_map}
use Rattle.bencoding.specs.steps.Printed.{fields_view}
use Rattle.nodes_tracker.specs.declared.peers.Peer.{Peer}
use Rattle.nodes_tracker.specs.steps.Fields.{AreFieldsRead}
use Rattle.nodes_tracker.proofs.Trees.{no_dictionary, swarm_other, swarm_full, swarm_found}
use Rattle.nodes_tracker.proofs.peers.read_swarm.Goals as goal

pub returns-in_default : goal.returns-in_default
returns-in_default c =
    c.new.ensures.items ∙ no_dictionary c.args.text.now
    (subst (AreFieldsRead c.args.text.now) c.in_default.is c.in_ok-fields.ensures)

pub returns-in_default-2 : goal.returns-in_default-2
returns-in_default-2 c =
    let text = c.args.text.now in
    let dict = subst (AreFieldsRead text) c.in-Some.is c.in_ok-fields.ensures in
    let none = sym (ap (option_map (λ (v : Vec Peer Global). v.items)) c.in_default-2.is) ∙ c.in_ok-peers.ensures in
    c.new-in_default-2.ensures.items ∙ swarm_other text (fields_view c.in-Some.fields.items) dict none

pub returns-then-len-gt-PEER_LIMIT : goal.returns-then-len-gt-PEER_LIMIT
returns-then-len-gt-PEER_LIMIT c =
    let text = c.args.text.now in
    let dict = subst (AreFieldsRead text) c.in-Some.is c.in_ok-fields.ensures in
    let some = sym (ap (option_map (λ (v : Vec Peer Global). v.items)) c.in-Some-2.is) ∙ c.in_ok-peers.ensures in
    c.new-then-len-gt-PEER_LIMIT.ensures.items
    ∙ swarm_full text (fields_view c.in-Some.fields.items) c.in-Some-2.peers.items dict some
    (omega (arith, c.if-len-gt-PEER_LIMIT.true, c.len.ensures, c.in-Some-2.peers.ok.0))

pub returns : goal.returns
returns c =
    let text = c.args.text.now in
    let dict = subst (AreFieldsRead text) c.in-Some.is c.in_ok-fields.ensures in
    let some = sym (ap (option_map (λ (v : Vec Peer Global). v.items)) c.in-Some-2.is) ∙ c.in_ok-peers.ensures in
    swarm_found text (fields_view c.in-Some.fields.items) c.in-Some-2.peers.items dict some
    (omega (arith, c.if-len-gt-PEER_LIMIT.false, c.len.ensures, c.in-Some-2.peers.ok.0))
