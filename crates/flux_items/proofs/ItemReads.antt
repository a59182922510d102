-- The items of the first lines, line by line.
use Rattle.std.proofs.Common.{◌≡◌, ◌⊎◌, inl, inr, ℕ, ◌+◌, ◌<◌, ◌≤◌, List, [], ◌∷◌, ◌++◌, length, take, drop, get_or, Option, Some, None, refl, sym, ap, ◌∙◌, subst, append_assoc, length-append, sum_by, slice_index, arith}
use Rattle.std.specs.List.{filter_map, slice_get}
use Rattle.std.specs.Option.{unwrap_or}
use Rattle.std.proofs.lemmas.Option.{unwrap_or-slice_get}
use Rattle.std.proofs.lemmas.List.{take_more, take_all, length-take, append-nil, take-append-drop}
use Rattle.std.proofs.lemmas.List.Elements.{filter_map-append}
use Rattle.std.proofs.lemmas.List.Sums.{sum_by-append}
use Rattle.flux_model.specs.declared.items.Item.{Item}
use Rattle.flux_items.specs.declared.rules.ItemRules.{ItemRules}
use Rattle.flux_items.specs.declared.rules.ItemFault.{ItemFault}
use Rattle.flux_items.specs.declared.rules.TheConstants.{ITEM_LIMIT, SIZE_LIMIT}
use Rattle.flux_items.specs.Lines.{lines_of, IsPassedOver}
use Rattle.flux_items.specs.Rules.{AreWithin, total_size}
use Rattle.flux_items.specs.Items.{IsItemLine, Gives, GiveEach, GiveItems, AreItemsOf}
use Rattle.flux_items.specs.Faults.{HasFault, line_of, IsFaultOf, IsTooMuch}
use Rattle.flux_items.specs.steps.Reading.{AreItemsSoFar}

-- ---- what lines give

pub each_more : (rules : ItemRules) (lines more : List (List ℕ)) (given others : List (Option Item)) → GiveEach rules lines given → GiveEach rules more others → GiveEach rules (lines ++ more) (given ++ others)
each_more rules [] more [] others one two = two
each_more rules [] more (g ∷ given) others one two = absurd one
each_more rules (l ∷ lines) more [] others one two = absurd one
each_more rules (l ∷ lines) more (g ∷ given) others one two = (one.0, each_more rules lines more given others one.1 two)

items_of : List (Option Item) → List Item
items_of given = filter_map (λ item. item) given

-- a line more
give_more : (rules : ItemRules) (lines : List (List ℕ)) (n : ℕ) (line : List ℕ) (items : List Item) (given : Option Item) → n < length lines → line ≡ get_or lines n line → GiveItems rules (take n lines) items → Gives rules line given
    → GiveItems rules (take (n + 1) lines) (items ++ filter_map (λ item. item) (given ∷ []))
give_more rules lines n line items given lt is give gives = record {
  given = give.given ++ given ∷ [];
  each = subst (λ (l : List (List ℕ)). GiveEach rules l (give.given ++ given ∷ [])) (sym (take_more lines n line lt ∙ ap (λ (l : List ℕ). take n lines ++ l ∷ []) (sym is))) (each_more rules (take n lines) (line ∷ []) give.given (given ∷ []) give.each (gives, tt));
  are = ap (λ (l : List Item). l ++ filter_map (λ item. item) (given ∷ [])) give.are ∙ sym (filter_map-append (λ item. item) give.given (given ∷ []));
}

pub passed_more : (rules : ItemRules) (lines : List (List ℕ)) (n : ℕ) (line : List ℕ) (items : List Item) (size : ℕ) → AreItemsSoFar rules lines n items size → (n < length lines) × (line ≡ get_or lines n line) → IsPassedOver line
    → AreItemsSoFar rules lines (n + 1) items size
passed_more rules lines n line items size so at over = record {
  give = subst (GiveItems rules (take (n + 1) lines)) (append-nil items) (give_more rules lines n line items None at.0 at.1 so.give over);
  within = so.within;
  size_ = so.size_;
}

-- the size with an item more
size_more : (rules : ItemRules) (items : List Item) (item : Item) → total_size rules (items ++ item ∷ []) ≡ total_size rules items + slice_index rules.sizes item.source.0
size_more rules items item = sum_by-append (λ (i : Item). slice_index rules.sizes i.source.0) items (item ∷ []) ∙ omega arith

pub item_more : (rules : ItemRules) (lines : List (List ℕ)) (n : ℕ) (line : List ℕ) (items new : List Item) (item : Item) (size own : ℕ) → AreItemsSoFar rules lines n items size → (n < length lines) × (line ≡ get_or lines n line) → IsItemLine rules line item
    → own ≡ slice_index rules.sizes item.source.0 → (length items ≡ ITEM_LIMIT → ⊥) → size + own ≤ SIZE_LIMIT → new ≡ items ++ item ∷ [] → AreItemsSoFar rules lines (n + 1) new (size + own)
item_more rules lines n line items new item size own so at is_item own_ other small new_ = subst (λ (l : List Item). AreItemsSoFar rules lines (n + 1) l (size + own)) (sym new_) (record {
  give = give_more rules lines n line items (Some item) at.0 at.1 so.give is_item;
  within = record { few = omega (arith, so.within.few, other, length-append items (item ∷ [])); small = omega (arith, small, size_more rules items item, so.size_, own_) };
  size_ = omega (arith, size_more rules items item, so.size_, own_);
})

pub too_much : (rules : ItemRules) (lines : List (List ℕ)) (n : ℕ) (line : List ℕ) (items : List Item) (item : Item) (size own : ℕ) → AreItemsSoFar rules lines n items size → IsItemLine rules line item
    → own ≡ slice_index rules.sizes item.source.0 → (length items ≡ ITEM_LIMIT) ⊎ (SIZE_LIMIT < size + own) → IsTooMuch rules items line
too_much rules lines n line items item size own so is_item own_ past = record {
  item = item;
  spelled = is_item;
  past = elim past [
    | inl full ↦ inl (omega (arith, full))
    | inr great ↦ inr (omega (arith, great, size_more rules items item, so.size_, own_))
  ];
}

-- ---- answers

pub all_read : (rules : ItemRules) (text : List ℕ) (n : ℕ) (items : List Item) (size : ℕ) → AreItemsSoFar rules (lines_of text) n items size → n ≡ length (lines_of text) → AreItemsOf rules items text
all_read rules text n items size so end = record {
  give = subst (λ (l : List (List ℕ)). GiveItems rules l items) (take_all n (lines_of text) (omega (arith, end))) so.give;
  within = so.within;
}

pub fault_here : (rules : ItemRules) (text : List ℕ) (n : ℕ) (line : List ℕ) (items : List Item) (size : ℕ) (fault : ItemFault) → AreItemsSoFar rules (lines_of text) n items size → (n < length (lines_of text)) × (line ≡ get_or (lines_of text) n line)
    → line_of fault ≡ n + 1 → HasFault rules items line fault → IsFaultOf rules fault text
fault_here rules text n line items size fault so at number cause =
    let lines = lines_of text in
    record {
      before = take n lines;
      line = line;
      after = drop (n + 1) lines;
      items = items;
      lines = sym (take-append-drop (n + 1) lines) ∙ ap (λ (l : List (List ℕ)). l ++ drop (n + 1) lines) (take_more lines n line at.0 ∙ ap (λ (l : List ℕ). take n lines ++ l ∷ []) (sym at.1)) ∙ append_assoc (take n lines) (line ∷ []) (drop (n + 1) lines);
      place = number ∙ omega (arith, at.0, length-take n lines);
      give = so.give;
      within = so.within;
      cause = cause;
    }

pub no_size : (xs : List ℕ) (i : ℕ) → None ≡ slice_get xs i → 0 ≡ slice_index xs i
no_size xs i e = ap (λ (o : Option ℕ). unwrap_or o 0) e ∙ unwrap_or-slice_get xs i 0
