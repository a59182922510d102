-- A list and a dictionary of the code, as values.
use Rattle.std.proofs.Common.{◌≡◌, Vec, Global, rules}
use Rattle.bencoding.specs.declared.values.Field.{Field}
use Rattle.bencoding.specs.declared.values.Ben.{Ben, Items, Dict, the_lemmas}
use Rattle.bencoding.specs.Trees.{items, dictionary}
use Rattle.bencoding.specs.Views.{tree_of}
use Rattle.bencoding.specs.steps.Printed.{items_view, fields_view}

pub view_items : (v : Vec Ben Global) → tree_of (Items v) ≡ items (items_view v.items)
view_items v = search (rules, the_lemmas)

pub view_fields : (v : Vec (Field Ben) Global) → tree_of (Dict v) ≡ dictionary (fields_view v.items)
view_fields v = search (rules, the_lemmas)
