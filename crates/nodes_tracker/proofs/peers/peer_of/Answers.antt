use Rattle.std.proofs.Common.{◌≡◌, ◌∙◌, sym, ap, arith, rules}
use Rattle.std.proofs.lemmas.Grind.{common_steps}
use Rattle.bencoding.specs.Trees.{number}
use Rattle.bencoding.specs.Views.{tree_of}
use Rattle.nodes_tracker.specs.steps.Fields.{tree_peer}
use Rattle.nodes_tracker.proofs.Trees.{view_int, view_text, view_items, view_fields}
use Rattle.nodes_tracker.proofs.peers.peer_of.Goals as goal

pub returns-in-Int : goal.returns-in-Int
returns-in-Int c =
    let seen : tree_of c.args.field.value ≡ number c.in-Int.left = ap tree_of c.in-Int.is ∙ view_int c.in-Int.left in
    rw seen (first_of (search rules, grind (arith, common_steps)))

pub returns-in-Text : goal.returns-in-Text
returns-in-Text c = sym (ap (tree_peer c.args.field.key) (ap tree_of c.in-Text.is ∙ view_text c.in-Text.field-0))

pub returns-in-Items : goal.returns-in-Items
returns-in-Items c = sym (ap (tree_peer c.args.field.key) (ap tree_of c.in-Items.is ∙ view_items c.in-Items.field-0))

pub returns-in-Dict : goal.returns-in-Dict
returns-in-Dict c = sym (ap (tree_peer c.args.field.key) (ap tree_of c.in-Dict.is ∙ view_fields c.in-Dict.field-0))
