-- The value that a `Ben` of the code is.
use Rattle.std.specs.Prelude.{List, [], ◌∷◌}
use Rattle.bencoding.specs.Trees.{Tree, number, string, items, dictionary, Trees, no_items, item, Fields, no_fields, field}
use Rattle.bencoding.specs.declared.values.Field.{Field}
use Rattle.bencoding.specs.declared.values.Ben.{Ben, fold-Ben}
use Rattle.bencoding.specs.declared.values.Ben.TheOpen.{Ben-F}

abbrev pub items_of : List Tree → Trees
items_of [] = no_items
items_of (t ∷ ts) = item t (items_of ts)

abbrev pub fields_of : List (Field Tree) → Fields
fields_of [] = no_fields
fields_of (f ∷ fs) = field f.key f.value (fields_of fs)

-- one level, with each value inside already seen
abbrev pub view_step : Ben-F Tree → Tree
view_step (Ben-F.Int z) = number z
view_step (Ben-F.Text bytes) = string bytes
view_step (Ben-F.Items v) = items (items_of v.items)
view_step (Ben-F.Dict v) = dictionary (fields_of v.items)

-- the value
abbrev pub tree_of : Ben → Tree
tree_of = fold-Ben Tree view_step
