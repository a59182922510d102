-- What a line is, by its name and what is read after it.
use Rattle.std.proofs.Common.{◌≡◌, ℕ, ◌<◌, List, length, map, Some, None, Result, Ok, Err, IfOk, refl, sym, ap, ◌∙◌, subst, arith}
use Rattle.std.specs.List.{slice_get}
use Rattle.std.proofs.lemmas.Option.{slice_get_within}
use Rattle.flux_values.specs.declared.values.Kind.{Kind}
use Rattle.flux_values.specs.declared.values.Value.{Value}
use Rattle.flux_values.specs.declared.failures.Memory.{Memory}
use Rattle.flux_values.specs.Values.{kind_of}
use Rattle.flux_items.specs.declared.lines.LineRead.{LineRead}
use Rattle.flux_items.specs.declared.lines.LineRead.TheVariants as reads
use Rattle.flux_items.specs.declared.rules.ItemRules.{ItemRules}
use Rattle.flux_items.specs.Lines.{IsPassedOver}
use Rattle.flux_items.specs.Spelled.{SpellsItem}
use Rattle.flux_items.specs.Rules.{IsNamed, GivesKinds}
use Rattle.flux_items.specs.Faults.{IsBadItem}
use Rattle.flux_items.specs.steps.Values.{Close}
use Rattle.flux_items.specs.steps.Reading.{HasName, IsItemRead, IsUnknownRead, IsLineRead}
use Rattle.flux_items.proofs.NamedLines.{same_name, spelled_named, named_spelled, named_not_over}

-- no name is in the line
pub bad_unnamed : (line : List ℕ) → (IsPassedOver line → ⊥) → ((name behind : List ℕ) → HasName line name behind → ⊥) → IsBadItem line
bad_unnamed line read none = record { read = read; other = λ name values spelled. let n = spelled_named line name values spelled in none name n.behind n.has }

bad_values : (line name behind : List ℕ) → HasName line name behind → ((values : List Value) → Close values behind → ⊥) → IsBadItem line
bad_values line name behind has none = record {
  read = named_not_over line name behind has;
  other = λ other values spelled.
      let n = spelled_named line other values spelled in
      let same = same_name line other name n.behind behind n.has has in
      none values (subst (Close values) same.behind n.close);
}

same_kinds : (rules : ItemRules) (place : ℕ) (ks js : List Kind) → GivesKinds rules place ks → GivesKinds rules place js → js ≡ ks
same_kinds rules place ks js one two = let e : Some ks ≡ Some js = sym one ∙ two in cc

-- after a source's name
item_read : (rules : ItemRules) (line name behind : List ℕ) (place : ℕ) → HasName line name behind → IsNamed rules place name → (read : LineRead) → IsItemRead rules place behind read → IsLineRead rules line read
item_read rules line name behind place has named reads.BadItem none = bad_values line name behind has none
item_read rules line name behind place has named reads.ItemTypes h = record {
  name = name;
  values = h.other.values;
  place = place;
  spelled = named_spelled line name behind h.other.values has h.other.close;
  named = named;
  other = λ gives. h.other.other (same_kinds rules place h.kinds (map kind_of h.other.values) h.gives gives);
}
item_read rules line name behind place has named (reads.Item item) h = record {
  name = name;
  spelled = named_spelled line name behind item.values has h.1;
  named = subst (λ (p : ℕ). IsNamed rules p name) (sym h.0) named;
  kinds = subst (λ (p : ℕ). GivesKinds rules p (map kind_of item.values)) (sym h.0) h.2;
}
item_read rules line name behind place has named reads.PassedOver h = absurd h
item_read rules line name behind place has named reads.UnknownSource h = absurd h

pub item_line_read : (rules : ItemRules) (line name behind : List ℕ) (place : ℕ) → HasName line name behind → IsNamed rules place name → (r : Result LineRead Memory) → IfOk r (IsItemRead rules place behind) → IfOk r (IsLineRead rules line)
item_line_read rules line name behind place has named (Ok read) h = item_read rules line name behind place has named read h
item_line_read rules line name behind place has named (Err e) h = tt

-- after a name that no source has
unknown_read : (rules : ItemRules) (line name behind : List ℕ) → HasName line name behind → ((place : ℕ) → IsNamed rules place name → ⊥) → (read : LineRead) → IsUnknownRead behind read → IsLineRead rules line read
unknown_read rules line name behind has none reads.BadItem h = bad_values line name behind has h
unknown_read rules line name behind has none reads.UnknownSource h = record { name = name; values = h.0; spelled = named_spelled line name behind h.0 has h.1; unknown = none }
unknown_read rules line name behind has none reads.PassedOver h = absurd h
unknown_read rules line name behind has none reads.ItemTypes h = absurd h
unknown_read rules line name behind has none (reads.Item item) h = absurd h

pub unknown_line_read : (rules : ItemRules) (line name behind : List ℕ) → HasName line name behind → ((place : ℕ) → IsNamed rules place name → ⊥) → (r : Result LineRead Memory) → IfOk r (IsUnknownRead behind) → IfOk r (IsLineRead rules line)
unknown_line_read rules line name behind has none (Ok read) h = unknown_read rules line name behind has none read h
unknown_line_read rules line name behind has none (Err e) h = tt
