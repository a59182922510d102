-- The items of a load's text, which has no fault.
use Rattle.std.proofs.Common.{◌≡◌, ◌<◌, ◌≤◌, ◌+◌, ◌*◌, ◌^◌, inl, ℕ, zero, suc, pos, List, [], ◌∷◌, ◌++◌, length, codes, decimal, slice_index, Option, Some, None, refl, sym, ap, subst, ◌∙◌, arith, append_assoc}
use Rattle.std.specs.List.{filter_map}
use Rattle.std.proofs.lemmas.List.{append-nil}
use Rattle.std.proofs.lemmas.List.Sums.{sum_by-cons}
use Rattle.flux_values.specs.declared.values.Kind.TheVariants as kinds
use Rattle.flux_values.specs.declared.values.Value.TheVariants.{Int}
use Rattle.flux_spelling.proofs.Causes.{printed_spells}
use Rattle.flux_model.specs.declared.items.Item.{Item}
use Rattle.flux_items.specs.declared.rules.ItemRules.{ItemRules}
use Rattle.flux_items.specs.declared.rules.ItemFault.{ItemFault}
use Rattle.flux_items.specs.declared.rules.TheConstants.{ITEM_LIMIT}
use Rattle.flux_items.specs.Lines.{lines_of}
use Rattle.flux_items.specs.Spelled.{SpellsItem}
use Rattle.flux_items.specs.Rules.{IsNamed, AreRules, total_size}
use Rattle.flux_items.specs.Items.{IsItemLine, GiveEach, AreItemsOf}
use Rattle.flux_items.specs.Faults.{IsFaultOf}
use Rattle.flux_items.proofs.OneAnswer.{no_items_and_fault}
use Rattle.flux_load.specs.Loads.{items_text}
use Rattle.flux_headline.proofs.LoadLines.{number_at, body, bodies, one_digit, lines_are}

-- the one source: it gives a number, and its flows have 26 events at most
abbrev pub load_rules : ItemRules
load_rules = record { names = codes "Tick" ∷ []; kinds = (kinds.Int ∷ []) ∷ []; sizes = 26 ∷ [] }

pub are_rules : AreRules load_rules
are_rules = record {
  kinds = refl;
  sizes = refl;
  few = omega arith;
  identifiers = (record { word = refl; free = refl }, tt);
  apart = λ a b name x y. apart a b name x y;
}
  where
    apart : (a b : ℕ) (name : List ℕ) → IsNamed load_rules a name → IsNamed load_rules b name → a ≡ b
    apart zero zero name x y = refl
    apart zero (suc b) name x y = absurd cc
    apart (suc a) b name x y = absurd cc

-- ---- one item

abbrev item : ℕ → Item
item number = record { source = record { 0 = 0 }; values = Int (pos number) ∷ [] }

spells : (number : ℕ) → number < 10 → SpellsItem (body number) (codes "Tick") (Int (pos number) ∷ [])
spells number lt = record {
  identifier = record { word = refl; free = refl };
  spellings = decimal number ∷ [];
  each = (printed_spells (Int (pos number)) (record { sfits = small }), tt);
  laid = (
    [],
    codes " (" ++ decimal number ++ codes ")",
    refl,
    refl,
    (
      codes " ",
      decimal number ++ codes ")",
      refl,
      refl,
      (
        [],
        codes ")",
        refl,
        refl,
        ([], [], refl, refl, refl),
      ),
    ),
  );
}
  where
    small : number < 2 ^ 63
    small = omega (arith, lt)

gives_item : (number : ℕ) → number < 10 → IsItemLine load_rules (body number) (item number)
gives_item number lt = record { name = codes "Tick"; spelled = spells number lt; named = refl; kinds = refl }

-- ---- all of them

-- what the lines give
abbrev pub given : ℕ → ℕ → List (Option Item)
given zero first = []
given (suc count) first = given count first ++ Some (item (number_at first count)) ∷ []

abbrev pub items_in : List (Option Item) → List Item
items_in given = filter_map (λ item. item) given

give_more : (lines more : List (List ℕ)) (given others : List (Option Item)) → GiveEach load_rules lines given
    → GiveEach load_rules more others → GiveEach load_rules (lines ++ more) (given ++ others)
give_more [] more [] others one two = two
give_more [] more (g ∷ given) others one two = absurd one
give_more (line ∷ lines) more [] others one two = absurd one
give_more (line ∷ lines) more (g ∷ given) others one two = (one.0, give_more lines more given others one.1 two)

each_gives : (count first : ℕ) → GiveEach load_rules (bodies count first) (given count first)
each_gives zero first = tt
each_gives (suc count) first =
    let number = number_at first count in
    give_more (bodies count first) (body number ∷ []) (given count first) (Some (item number) ∷ [])
    (each_gives count first) (gives_item number (one_digit first count), tt)

pub many : (count first : ℕ) (others : List (Option Item))
    → length (items_in (given count first ++ others)) ≡ count + length (items_in others)
many zero first others = omega arith
many (suc count) first others =
    let own : Option Item = Some (item (number_at first count)) in
    ap (λ (l : List (Option Item)). length (items_in l)) (append_assoc (given count first) (own ∷ []) others)
    ∙ many count first (own ∷ others) ∙ omega arith

large : (count first : ℕ) (others : List (Option Item))
    → total_size load_rules (items_in (given count first ++ others))
    ≡ 26 * count + total_size load_rules (items_in others)
large zero first others = omega arith
large (suc count) first others =
    let own : Item = item (number_at first count) in
    let next : total_size load_rules (own ∷ items_in others) ≡ 26 + total_size load_rules (items_in others) =
    sum_by-cons (λ (i : Item). slice_index load_rules.sizes i.source.0) own (items_in others) in
    ap (λ (l : List (Option Item)). total_size load_rules (items_in l))
    (append_assoc (given count first) (Some own ∷ []) others)
    ∙ large count first (Some own ∷ others) ∙ omega (arith, next)

-- the text gives its items: each line one, and the empty line after the last LF none
pub gives_items : (count first : ℕ) → count ≤ ITEM_LIMIT
    → AreItemsOf load_rules (items_in (given count first ++ None ∷ [])) (items_text count first)
gives_items count first le = record {
  give = record {
    given = given count first ++ None ∷ [];
    each = subst (λ (ls : List (List ℕ)). GiveEach load_rules ls (given count first ++ None ∷ [])) (sym lines)
        (give_more (bodies count first) ([] ∷ []) (given count first) (None ∷ [])
        (each_gives count first) (inl refl, tt));
    are = refl;
  };
  within = record {
    few = omega (arith, le, many count first (None ∷ []));
    small = omega (arith, le, large count first (None ∷ []));
  };
}
  where
    lines : lines_of (items_text count first) ≡ bodies count first ++ [] ∷ []
    lines = ap lines_of (sym (append-nil (items_text count first))) ∙ lines_are count first []

-- so no line of it has a fault
pub faultless : (count first : ℕ) → count ≤ ITEM_LIMIT
    → (fault : ItemFault) → IsFaultOf load_rules fault (items_text count first) → ⊥
faultless count first le fault is = no_items_and_fault load_rules are_rules (items_text count first)
    (items_in (given count first ++ None ∷ [])) fault (gives_items count first le) is
