-- A text has one answer: its items, or the one fault of its first faulty line.
use Rattle.std.proofs.Common.{◌≡◌, ◌⊎◌, inl, inr, ℕ, ◌+◌, ◌<◌, ◌≤◌, List, [], ◌∷◌, ◌++◌, length, drop, get_or, map, Option, Some, None, Result, Ok, Err, refl, sym, ap, ◌∙◌, subst, append_assoc, length-append, sum_by, slice_index, arith}
use Rattle.std.specs.List.{filter_map, slice_get}
use Rattle.std.proofs.lemmas.Bool.{cases_order}
use Rattle.std.proofs.lemmas.List.{append-nil}
use Rattle.std.proofs.lemmas.List.Elements.{filter_map-append}
use Rattle.std.proofs.lemmas.List.Sums.{sum_by-append}
use Rattle.flux_values.specs.declared.values.Kind.{Kind}
use Rattle.flux_values.specs.declared.values.Value.{Value}
use Rattle.flux_values.specs.Values.{kind_of}
use Rattle.flux_spelling.proofs.Causes.{one_value}
use Rattle.flux_model.specs.declared.items.Item.{Item}
use Rattle.flux_items.specs.declared.rules.ItemRules.{ItemRules}
use Rattle.flux_items.specs.declared.rules.ItemFault.{ItemFault}
use Rattle.flux_items.specs.declared.rules.ItemFault.TheVariants as faults
use Rattle.flux_items.specs.Lines.{lines_of, IsPassedOver}
use Rattle.flux_items.specs.Spelled.{SpellsItem}
use Rattle.flux_items.specs.Rules.{IsNamed, GivesKinds, AreRules, AreWithin, total_size}
use Rattle.flux_items.specs.Items.{IsItemLine, Gives, GiveEach, GiveItems, AreItemsOf}
use Rattle.flux_values.specs.Answers.{IsOrMemory}
use Rattle.flux_items.specs.Faults.{IsBadItem, HasUnknownSource, HasOtherTypes, IsTooMuch, HasFault, line_of, IsFaultOf, HasCause}
use Rattle.flux_items.specs.steps.Fronts.{past_blanks, Ends}
use Rattle.flux_items.specs.steps.Values.{IsValueThen, Follow, Close}
use Rattle.flux_items.proofs.Laid.{begins_first}
use Rattle.flux_items.proofs.NamedLines.{same_name, spelled_named, named_not_over}

-- ---- a line spells one name and one list of values

record SameThen (v w : Value) (text : List ℕ) (Then Other : List ℕ → Type 0) : Type 0 where
  value : v ≡ w
  rest : List ℕ
  then_ : Then rest
  other : Other rest

same_then : (text : List ℕ) (v w : Value) (Then Other : List ℕ → Type 0) → IsValueThen v text Then → IsValueThen w text Other → SameThen v w text Then Other
same_then text v w Then Other one two =
    let same = one_value (past_blanks text) v w one.n two.n one.begins two.begins in
    record { value = same.value; rest = past_blanks (drop two.n (past_blanks text)); then_ = subst (λ (m : ℕ). Then (past_blanks (drop m (past_blanks text)))) same.long one.then_; other = two.then_ }

end_no_comma : (rest : List ℕ) → Ends rest → rest ≡ 44 ∷ drop 1 rest → ⊥
end_no_comma rest ends comma = let e : 44 ≡ 41 = ap (λ (l : List ℕ). get_or l 0 0) (sym comma ∙ ends.closed) in omega (arith, e)

follow_once : (vs ws : List Value) (rest : List ℕ) → Follow vs rest → Follow ws rest → vs ≡ ws
follow_once [] [] rest one two = refl
follow_once [] (w ∷ ws) rest one two = absurd (end_no_comma rest one two.0)
follow_once (v ∷ vs) [] rest one two = absurd (end_no_comma rest two one.0)
follow_once (v ∷ vs) (w ∷ ws) rest one two =
    let s = same_then (drop 1 rest) v w (Follow vs) (Follow ws) one.1 two.1 in
    ap (λ (x : Value). x ∷ vs) s.value ∙ ap (λ (l : List Value). w ∷ l) (follow_once vs ws s.rest s.then_ s.other)

value_no_end : (text : List ℕ) (v : Value) (Then : List ℕ → Type 0) → IsValueThen v text Then → Ends (past_blanks text) → ⊥
value_no_end text v Then then_ ends = let h = begins_first (past_blanks text) v then_.n then_.begins in h.close (ap (λ (l : List ℕ). get_or l 0 0) (sym h.is ∙ ends.closed))

close_once : (vs ws : List Value) (text : List ℕ) → Close vs text → Close ws text → vs ≡ ws
close_once [] [] text one two = refl
close_once [] (w ∷ ws) text one two = absurd (value_no_end text w (Follow ws) two one)
close_once (v ∷ vs) [] text one two = absurd (value_no_end text v (Follow vs) one two)
close_once (v ∷ vs) (w ∷ ws) text one two =
    let s = same_then text v w (Follow vs) (Follow ws) one two in
    ap (λ (x : Value). x ∷ vs) s.value ∙ ap (λ (l : List Value). w ∷ l) (follow_once vs ws s.rest s.then_ s.other)

record SameItem (n m : List ℕ) (vs ws : List Value) : Type 0 where
  name : n ≡ m
  values : vs ≡ ws

spelled_once : (line n m : List ℕ) (vs ws : List Value) → SpellsItem line n vs → SpellsItem line m ws → SameItem n m vs ws
spelled_once line n m vs ws one two =
    let a = spelled_named line n vs one in
    let b = spelled_named line m ws two in
    let s = same_name line n m a.behind b.behind a.has b.has in
    record { name = s.name; values = close_once vs ws b.behind (subst (Close vs) s.behind a.close) b.close }

spelled_not_over : (line n : List ℕ) (vs : List Value) → SpellsItem line n vs → IsPassedOver line → ⊥
spelled_not_over line n vs spelled over = let a = spelled_named line n vs spelled in named_not_over line n a.behind a.has over

-- ---- a line gives one item, or none, or has one fault

item_same : (i j : Item) → i.source.0 ≡ j.source.0 → i.values ≡ j.values → i ≡ j
item_same i j p q =
    let made : ℕ → List Value → Item = λ n vs. record { source = record { 0 = n }; values = vs } in
    ap (λ (n : ℕ). made n i.values) p ∙ ap (λ (vs : List Value). made j.source.0 vs) q

item_once : (rules : ItemRules) → AreRules rules → (line : List ℕ) (i j : Item) → IsItemLine rules line i → IsItemLine rules line j → i ≡ j
item_once rules are line i j one two =
    let s = spelled_once line one.name two.name i.values j.values one.spelled two.spelled in
    item_same i j (are.apart i.source.0 j.source.0 two.name (subst (IsNamed rules i.source.0) s.name one.named) two.named) s.values

gives_once : (rules : ItemRules) → AreRules rules → (line : List ℕ) (g h : Option Item) → Gives rules line g → Gives rules line h → g ≡ h
gives_once rules are line None None one two = refl
gives_once rules are line None (Some j) one two = absurd (spelled_not_over line two.name j.values two.spelled one)
gives_once rules are line (Some i) None one two = absurd (spelled_not_over line one.name i.values one.spelled two)
gives_once rules are line (Some i) (Some j) one two = ap Some (item_once rules are line i j one two)

unknown_no_name : (rules : ItemRules) (line n : List ℕ) (vs : List Value) (place : ℕ) → HasUnknownSource rules line → SpellsItem line n vs → IsNamed rules place n → ⊥
unknown_no_name rules line n vs place u spelled named =
    let s = spelled_once line n u.name vs u.values spelled u.spelled in
    u.unknown place (subst (IsNamed rules place) s.name named)

other_no_item : (rules : ItemRules) → AreRules rules → (line : List ℕ) (item : Item) → HasOtherTypes rules line → IsItemLine rules line item → ⊥
other_no_item rules are line item o is_item =
    let s = spelled_once line is_item.name o.name item.values o.values is_item.spelled o.spelled in
    let place : item.source.0 ≡ o.place = are.apart item.source.0 o.place o.name (subst (IsNamed rules item.source.0) s.name is_item.named) o.named in
    o.other (subst (λ (p : ℕ). GivesKinds rules p (map kind_of o.values)) place (subst (λ (vs : List Value). GivesKinds rules item.source.0 (map kind_of vs)) s.values is_item.kinds))

-- what is past the limits isn't within
past_not_within : (rules : ItemRules) (items line : _) (t : IsTooMuch rules items line) → AreWithin rules (items ++ t.item ∷ []) → ⊥
past_not_within rules items line t within = elim t.past [
  | inl few ↦ omega (arith, few, within.few, length-append items (t.item ∷ []))
  | inr great ↦ omega (arith, great, within.small)
]

items_of : List (Option Item) → List Item
items_of given = filter_map (λ item. item) given

-- a line with a fault gives nothing that is within the limits
fault_not_given : (rules : ItemRules) → AreRules rules → (items : List Item) (line : List ℕ) (fault : ItemFault) (g : Option Item) → HasFault rules items line fault → Gives rules line g → AreWithin rules (items ++ filter_map (λ item. item) (g ∷ [])) → ⊥
fault_not_given rules are items line (faults.BadItem n) None f gives within = f.read gives
fault_not_given rules are items line (faults.BadItem n) (Some i) f gives within = f.other gives.name i.values gives.spelled
fault_not_given rules are items line (faults.UnknownSource n) None f gives within = spelled_not_over line f.name f.values f.spelled gives
fault_not_given rules are items line (faults.UnknownSource n) (Some i) f gives within = unknown_no_name rules line gives.name i.values i.source.0 f gives.spelled gives.named
fault_not_given rules are items line (faults.ItemTypes n) None f gives within = spelled_not_over line f.name f.values f.spelled gives
fault_not_given rules are items line (faults.ItemTypes n) (Some i) f gives within = other_no_item rules are line i f gives
fault_not_given rules are items line (faults.TooMany n) None f gives within = spelled_not_over line f.spelled.name f.item.values f.spelled.spelled gives
fault_not_given rules are items line (faults.TooMany n) (Some i) f gives within =
    past_not_within rules items line f (subst (λ (j : Item). AreWithin rules (items ++ j ∷ [])) (item_once rules are line i f.item gives f.spelled) within)
fault_not_given rules are items line faults.Memory g f gives within = f

-- a line has one fault
fault_once : (rules : ItemRules) → AreRules rules → (items : List Item) (line : List ℕ) (f g : ItemFault) → HasFault rules items line f → HasFault rules items line g → line_of f ≡ line_of g → f ≡ g
fault_once rules are items line (faults.BadItem n) (faults.BadItem m) one two e = ap (λ (k : ℕ). faults.BadItem k) e
fault_once rules are items line (faults.BadItem n) (faults.UnknownSource m) one two e = absurd (one.other two.name two.values two.spelled)
fault_once rules are items line (faults.BadItem n) (faults.ItemTypes m) one two e = absurd (one.other two.name two.values two.spelled)
fault_once rules are items line (faults.BadItem n) (faults.TooMany m) one two e = absurd (one.other two.spelled.name two.item.values two.spelled.spelled)
fault_once rules are items line (faults.BadItem n) faults.Memory one two e = absurd two
fault_once rules are items line (faults.UnknownSource n) (faults.BadItem m) one two e = absurd (two.other one.name one.values one.spelled)
fault_once rules are items line (faults.UnknownSource n) (faults.UnknownSource m) one two e = ap (λ (k : ℕ). faults.UnknownSource k) e
fault_once rules are items line (faults.UnknownSource n) (faults.ItemTypes m) one two e = absurd (unknown_no_name rules line two.name two.values two.place one two.spelled two.named)
fault_once rules are items line (faults.UnknownSource n) (faults.TooMany m) one two e = absurd (unknown_no_name rules line two.spelled.name two.item.values two.item.source.0 one two.spelled.spelled two.spelled.named)
fault_once rules are items line (faults.UnknownSource n) faults.Memory one two e = absurd two
fault_once rules are items line (faults.ItemTypes n) (faults.BadItem m) one two e = absurd (two.other one.name one.values one.spelled)
fault_once rules are items line (faults.ItemTypes n) (faults.UnknownSource m) one two e = absurd (unknown_no_name rules line one.name one.values one.place two one.spelled one.named)
fault_once rules are items line (faults.ItemTypes n) (faults.ItemTypes m) one two e = ap (λ (k : ℕ). faults.ItemTypes k) e
fault_once rules are items line (faults.ItemTypes n) (faults.TooMany m) one two e = absurd (other_no_item rules are line two.item one two.spelled)
fault_once rules are items line (faults.ItemTypes n) faults.Memory one two e = absurd two
fault_once rules are items line (faults.TooMany n) (faults.BadItem m) one two e = absurd (two.other one.spelled.name one.item.values one.spelled.spelled)
fault_once rules are items line (faults.TooMany n) (faults.UnknownSource m) one two e = absurd (unknown_no_name rules line one.spelled.name one.item.values one.item.source.0 two one.spelled.spelled one.spelled.named)
fault_once rules are items line (faults.TooMany n) (faults.ItemTypes m) one two e = absurd (other_no_item rules are line one.item two one.spelled)
fault_once rules are items line (faults.TooMany n) (faults.TooMany m) one two e = ap (λ (k : ℕ). faults.TooMany k) e
fault_once rules are items line (faults.TooMany n) faults.Memory one two e = absurd two
fault_once rules are items line faults.Memory g one two e = absurd one

-- ---- lines give one list of items

each_once : (rules : ItemRules) → AreRules rules → (lines : List (List ℕ)) (g h : List (Option Item)) → GiveEach rules lines g → GiveEach rules lines h → g ≡ h
each_once rules are [] [] [] one two = refl
each_once rules are [] [] (y ∷ h) one two = absurd two
each_once rules are [] (x ∷ g) h one two = absurd one
each_once rules are (l ∷ lines) [] h one two = absurd one
each_once rules are (l ∷ lines) (x ∷ g) [] one two = absurd two
each_once rules are (l ∷ lines) (x ∷ g) (y ∷ h) one two =
    ap (λ (o : Option Item). o ∷ g) (gives_once rules are l x y one.0 two.0) ∙ ap (λ (r : List (Option Item)). y ∷ r) (each_once rules are lines g h one.1 two.1)

items_once : (rules : ItemRules) → AreRules rules → (lines : List (List ℕ)) (is js : List Item) → GiveItems rules lines is → GiveItems rules lines js → is ≡ js
items_once rules are lines is js one two = one.are ∙ ap (filter_map (λ item. item)) (each_once rules are lines one.given two.given one.each two.each) ∙ sym two.are

-- what is before, at and after a line gives what its items are made of
record Parted (rules : ItemRules) (before : List (List ℕ)) (line : List ℕ) (items : List Item) : Type 0 where
  first : List Item
  own : Option Item
  last : List Item
  give : GiveItems rules before first
  gives : Gives rules line own
  are : items ≡ (first ++ filter_map (λ item. item) (own ∷ [])) ++ last

part_given : (rules : ItemRules) (before : List (List ℕ)) (line : List ℕ) (after : List (List ℕ)) (given : List (Option Item)) → GiveEach rules (before ++ line ∷ after) given → Parted rules before line (filter_map (λ item. item) given)
part_given rules [] line after [] each = absurd each
part_given rules [] line after (g ∷ given) each = record {
  first = [];
  own = g;
  last = filter_map (λ item. item) given;
  give = record { given = []; each = tt; are = refl };
  gives = each.0;
  are = filter_map-append (λ item. item) (g ∷ []) given;
}
part_given rules (l ∷ before) line after [] each = absurd each
part_given rules (l ∷ before) line after (g ∷ given) each =
    let p = part_given rules before line after given each.1 in
    let one : List Item = filter_map (λ item. item) (g ∷ []) in
    record {
      first = one ++ p.first;
      own = p.own;
      last = p.last;
      give = record { given = g ∷ p.give.given; each = (each.0, p.give.each); are = ap (λ (r : List Item). one ++ r) p.give.are ∙ sym (filter_map-append (λ item. item) (g ∷ []) p.give.given) };
      gives = p.gives;
      are = filter_map-append (λ item. item) (g ∷ []) given ∙ ap (λ (r : List Item). one ++ r) p.are ∙ sym (append_assoc one (p.first ++ filter_map (λ item. item) (p.own ∷ [])) p.last)
          ∙ ap (λ (r : List Item). r ++ p.last) (sym (append_assoc one p.first (filter_map (λ item. item) (p.own ∷ []))));
    }

part : (rules : ItemRules) (before : List (List ℕ)) (line : List ℕ) (after lines : List (List ℕ)) (items : List Item) → lines ≡ before ++ line ∷ after → GiveItems rules lines items → Parted rules before line items
part rules before line after lines items is give =
    subst (Parted rules before line) (sym give.are) (part_given rules before line after give.given (subst (λ (ls : List (List ℕ)). GiveEach rules ls give.given) is give.each))

within_front : (rules : ItemRules) (xs ys : List Item) → AreWithin rules (xs ++ ys) → AreWithin rules xs
within_front rules xs ys within = record {
  few = omega (arith, within.few, length-append xs ys);
  small = omega (arith, within.small, sum_by-append (λ (i : Item). slice_index rules.sizes i.source.0) xs ys);
}

-- lines that give items within the limits have no faulty line among them
no_fault_among : (rules : ItemRules) → AreRules rules → (before : List (List ℕ)) (line : List ℕ) (after lines : List (List ℕ)) (items first : List Item) (fault : ItemFault) → lines ≡ before ++ line ∷ after → GiveItems rules lines items → AreWithin rules items
    → GiveItems rules before first → HasFault rules first line fault → ⊥
no_fault_among rules are before line after lines items first fault is give within give_first cause =
    let p = part rules before line after lines items is give in
    let same : first ≡ p.first = items_once rules are before first p.first give_first p.give in
    let own : List Item = filter_map (λ item. item) (p.own ∷ []) in
    fault_not_given rules are p.first line fault p.own (subst (λ (l : List Item). HasFault rules l line fault) same cause) p.gives (within_front rules (p.first ++ own) p.last (subst (AreWithin rules) p.are within))

-- ---- one answer

-- items and a fault exclude each other
pub no_items_and_fault : (rules : ItemRules) → AreRules rules → (text : List ℕ) (items : List Item) (fault : ItemFault) → AreItemsOf rules items text → IsFaultOf rules fault text → ⊥
no_items_and_fault rules are text items fault all f = no_fault_among rules are f.before f.line f.after (lines_of text) items f.items fault f.lines all.give all.within f.give f.cause

-- of two places in one list the earlier is before the later
record Earlier (b : List (List ℕ)) (l : List ℕ) (c : List (List ℕ)) : Type 0 where
  more : List (List ℕ)
  is : c ≡ b ++ l ∷ more

earlier : (b c : List (List ℕ)) (l m : List ℕ) (x y : List (List ℕ)) → b ++ l ∷ x ≡ c ++ m ∷ y → length b < length c → Earlier b l c
earlier b [] l m x y e lt = absurd (omega arith)
earlier [] (k ∷ c) l m x y e lt = record { more = c; is = ap (λ (h : List ℕ). h ∷ c) (sym (let h : l ≡ k = cc in h)) }
earlier (j ∷ b) (k ∷ c) l m x y e lt =
    let heads : j ≡ k = cc in
    let tails : b ++ l ∷ x ≡ c ++ m ∷ y = cc in
    let r = earlier b c l m x y tails (omega (arith, lt)) in
    record { more = r.more; is = ap (λ (h : List ℕ). h ∷ c) (sym heads) ∙ ap (λ (t : List (List ℕ)). j ∷ t) r.is }

record SamePlace (b c : List (List ℕ)) (l m : List ℕ) : Type 0 where
  before : b ≡ c
  line : l ≡ m

same_place : (b c : List (List ℕ)) (l m : List ℕ) (x y : List (List ℕ)) → b ++ l ∷ x ≡ c ++ m ∷ y → length b ≡ length c → SamePlace b c l m
same_place [] [] l m x y e n = record { before = refl; line = cc }
same_place [] (k ∷ c) l m x y e n = absurd (omega (arith, n))
same_place (j ∷ b) [] l m x y e n = absurd (omega (arith, n))
same_place (j ∷ b) (k ∷ c) l m x y e n =
    let heads : j ≡ k = cc in
    let tails : b ++ l ∷ x ≡ c ++ m ∷ y = cc in
    let r = same_place b c l m x y tails (omega (arith, n)) in
    record { before = ap (λ (h : List ℕ). h ∷ b) heads ∙ ap (λ (t : List (List ℕ)). k ∷ t) r.before; line = r.line }

not_earlier : (rules : ItemRules) → AreRules rules → (text : List ℕ) (f g : ItemFault) (one : IsFaultOf rules f text) (two : IsFaultOf rules g text) → length one.before < length two.before → ⊥
not_earlier rules are text f g one two lt =
    let e = earlier one.before two.before one.line two.line one.after two.after (sym one.lines ∙ two.lines) lt in
    no_fault_among rules are one.before one.line e.more two.before two.items one.items f e.is two.give two.within one.give one.cause

one_fault : (rules : ItemRules) → AreRules rules → (text : List ℕ) (f g : ItemFault) → IsFaultOf rules f text → IsFaultOf rules g text → f ≡ g
one_fault rules are text f g one two = elim (cases_order (length one.before) (length two.before)) as (λ _. f ≡ g) [
  | inl same ↦
      let p = same_place one.before two.before one.line two.line one.after two.after (sym one.lines ∙ two.lines) same in
      let items : one.items ≡ two.items = items_once rules are two.before one.items two.items (subst (λ (b : List (List ℕ)). GiveItems rules b one.items) p.before one.give) two.give in
      fault_once rules are two.items two.line f g (subst (λ (l : List ℕ). HasFault rules two.items l f) p.line (subst (λ (is : List Item). HasFault rules is one.line f) items one.cause)) two.cause (one.place ∙ ap (λ (n : ℕ). n + 1) same ∙ sym two.place)
  | inr differ ↦ absurd (elim differ [ inl lt ↦ not_earlier rules are text f g one two lt | inr gt ↦ not_earlier rules are text g f two one gt ])
]

abbrev Answer : Type 0
Answer = Result (List Item) ItemFault

-- each cause has its answer
pub answers_items : (rules : ItemRules) → AreRules rules → (text : List ℕ) (r : Answer) → HasCause rules text r → (items : List Item) → AreItemsOf rules items text → IsOrMemory faults.Memory (Ok items) r
answers_items rules are text (Ok own) cause items all = inl (ap Ok (items_once rules are (lines_of text) own items cause.give all.give))
answers_items rules are text (Err e) (inl memory) items all = inr (ap Err memory)
answers_items rules are text (Err e) (inr fault) items all = absurd (no_items_and_fault rules are text items e all fault)

pub answers_fault : (rules : ItemRules) → AreRules rules → (text : List ℕ) (r : Answer) → HasCause rules text r → (fault : ItemFault) → IsFaultOf rules fault text → IsOrMemory faults.Memory (Err fault) r
answers_fault rules are text (Ok own) cause fault is = absurd (no_items_and_fault rules are text own fault cause is)
answers_fault rules are text (Err e) (inl memory) fault is = inr (ap Err memory)
answers_fault rules are text (Err e) (inr own) fault is = inl (ap Err (one_fault rules are text e fault own is))
