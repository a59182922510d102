use Rattle.std.proofs.Common.{◌≡◌, ◌∙◌, sym, ap}
use Rattle.bencoding.specs.Trees.{number, string, dictionary}
use Rattle.bencoding.specs.Views.{tree_of}
use Rattle.nodes_tracker.proofs.Trees.{view_int, view_text, view_fields}
use Rattle.nodes_tracker.proofs.peers.fields_in.Goals as goal

pub returns-in-Dict : goal.returns-in-Dict
returns-in-Dict c = ap tree_of c.in-Dict.is ∙ view_fields c.in-Dict.fields

pub returns-in-Int : goal.returns-in-Int
returns-in-Int c other e = let no : number c.in-Int.field-0 ≡ dictionary other =
    sym (ap tree_of c.in-Int.is ∙ view_int c.in-Int.field-0) ∙ e in cc

pub returns-in-Text : goal.returns-in-Text
returns-in-Text c other e = let no : string c.in-Text.field-0 ≡ dictionary other =
    sym (ap tree_of c.in-Text.is ∙ view_text c.in-Text.field-0) ∙ e in cc
