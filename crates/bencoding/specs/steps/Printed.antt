-- Steps of the printer: a list and a dictionary from what the code has of them.
use Rattle.std.specs.Prelude.{ℕ, List, ◌++◌, map, codes}
use Rattle.bencoding.specs.Trees.{Tree, Trees, Fields, spelled_items, spelled_fields}
use Rattle.bencoding.specs.Views.{items_of, fields_of, tree_of}
use Rattle.bencoding.specs.declared.values.Field.{Field}
use Rattle.bencoding.specs.declared.values.Ben.{Ben}

abbrev pub items_view : List Ben → Trees
items_view bens = items_of (map tree_of bens)

abbrev pub seen : Field Ben → Field Tree
seen f = record { key = f.key; value = tree_of f.value }

abbrev pub fields_view : List (Field Ben) → Fields
fields_view fields = fields_of (map seen fields)

abbrev pub spelled_list : List Ben → List ℕ
spelled_list bens = codes "l" ++ (spelled_items (items_view bens) ++ codes "e")

abbrev pub spelled_dictionary : List (Field Ben) → List ℕ
spelled_dictionary fields = codes "d" ++ (spelled_fields (fields_view fields) ++ codes "e")
