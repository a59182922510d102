-- Names in both scopes, by the constraints that were seen and by those before.
use Rattle.std.proofs.Common.{◌≡◌, ℕ, ◌||◌, ◌&&◌, Bool, true, false, not, List, [], ◌∷◌, ◌++◌, inl, inr, ◌⊎◌, refl, sym, ap, ◌∙◌}
use Rattle.std.specs.Bool.{beq}
use Rattle.std.specs.List.{list_any}
use Rattle.std.specs.Str.{bytes_eq}
use Rattle.std.proofs.lemmas.List.Folds.{list_any-append}
use Rattle.std.proofs.lemmas.List.{append_assoc}
use Rattle.std.proofs.Math.Bool.{and-false, or-false}
use Rattle.flux_check.proofs.Rowless.{no_word}
use Rattle.flux_syntax.proofs.Found.{any_same}
use Rattle.flux_syntax.proofs.RowLemmas.{none_either}
use Rattle.flux_syntax.specs.declared.declarations.Word.{Word}
use Rattle.flux_names.specs.Rows.{word_if}
use Rattle.flux_check.specs.Rows.{ConstraintOn, is_other_scope, both_scopes_after}
use Rattle.flux_check.specs.steps.Seen.{Flags, has_flag, is_crossed, and_scope, and_scopes, crossed_by}
use Rattle.flux_names.proofs.Symbols.{bytes_same}
use Rattle.flux_check.proofs.Flagged.{has_more}
use Rattle.flux_check.proofs.Constrained.{IsAmong, among_left, among_right, among_any}

-- ---- as they were seen

-- one of the constraints is on the node, of this name and in this scope
abbrev flagged : List ConstraintOn → List ℕ → List ℕ → Bool → Bool
flagged before node name flag = list_any (λ (b : ConstraintOn). let c = b.constraint in bytes_eq node b.node.text && bytes_eq name c.name.text && beq flag c.session) before

other_flag : (own other : Bool) → beq (not own) other ≡ not (beq own other)
other_flag true true = refl
other_flag true false = refl
other_flag false true = refl
other_flag false false = refl

crossed_here : (seen : Flags) (before : List ConstraintOn) (own : ConstraintOn) → ((node name : List ℕ) (flag : Bool) → has_flag seen node name flag ≡ flagged before node name flag) → is_crossed seen own ≡ list_any (is_other_scope own) before
crossed_here seen before own same =
    let mine = own.constraint in
    same own.node.text mine.name.text (not mine.session)
    ∙ any_same (λ (b : ConstraintOn). let c = b.constraint in bytes_eq own.node.text b.node.text && bytes_eq mine.name.text c.name.text && beq (not mine.session) c.session) (is_other_scope own)
    (λ b. let c = b.constraint in ap (λ (t : Bool). bytes_eq own.node.text b.node.text && bytes_eq mine.name.text c.name.text && t) (other_flag mine.session c.session)) before

crossed_from : (seen : Flags) (before ons : List ConstraintOn) → ((node name : List ℕ) (flag : Bool) → has_flag seen node name flag ≡ flagged before node name flag) → crossed_by seen ons ≡ both_scopes_after before ons
crossed_from seen before [] same = refl
crossed_from seen before (own ∷ ons) same =
    let mine = own.constraint in
    ap (λ (b : Bool). word_if b mine.name ++ crossed_by (and_scope seen own) ons) (crossed_here seen before own same)
    ∙ ap (λ (l : List Word). word_if (list_any (is_other_scope own) before) mine.name ++ l) (crossed_from (and_scope seen own) (before ++ own ∷ []) ons more)
  where
    more : (node name : List ℕ) (flag : Bool) → has_flag (and_scope seen own) node name flag ≡ flagged (before ++ own ∷ []) node name flag
    more node name flag =
        let mine = own.constraint in
        let new : Bool = bytes_eq node own.node.text && bytes_eq name mine.name.text && beq flag mine.session in
        has_more seen own.node.text mine.name.text mine.session node name flag
        ∙ ap (λ (b : Bool). b || new) (same node name flag)
        ∙ ap (λ (b : Bool). flagged before node name flag || b) (sym (or-false new))
        ∙ sym (list_any-append (λ (b : ConstraintOn). let c = b.constraint in bytes_eq node b.node.text && bytes_eq name c.name.text && beq flag c.session) before (own ∷ []))

-- those whose other scope was seen are those whose other scope stood before
pub scopes_are : (ons : List ConstraintOn) → crossed_by [] ons ≡ both_scopes_after [] ons
scopes_are ons = crossed_from [] [] ons (λ node name flag. refl)

pub crossed_append : (seen : Flags) (first second : List ConstraintOn) → crossed_by seen (first ++ second) ≡ crossed_by seen first ++ crossed_by (and_scopes seen first) second
crossed_append seen [] second = refl
crossed_append seen (own ∷ first) second =
    let mine = own.constraint in let word = word_if (is_crossed seen own) mine.name in
    ap (λ (l : List Word). word ++ l) (crossed_append (and_scope seen own) first second)
    ∙ sym (append_assoc word (crossed_by (and_scope seen own) first) (crossed_by (and_scopes (and_scope seen own) first) second))

-- ---- where the row doesn't apply

no_other : (x : ConstraintOn) (before : List ConstraintOn) (y : ConstraintOn) → list_any (is_other_scope x) before ≡ false → IsAmong y before → is_other_scope x y ≡ false
no_other x before y none is = one (is_other_scope x y) refl
  where
    one : (t : Bool) → is_other_scope x y ≡ t → is_other_scope x y ≡ false
    one false e = e
    one true e = let h : ◌≡◌ {A = Bool} true false = sym (among_any (is_other_scope x) before y is e) ∙ none in absurd cc

apart_before : (before ons : List ConstraintOn) → both_scopes_after before ons ≡ [] → (x y : ConstraintOn) → IsAmong x ons → IsAmong y before → is_other_scope x y ≡ false
apart_before before [] e x y is other = absurd is
apart_before before (own ∷ ons) e x y is other =
    let mine = own.constraint in
    let both = none_either (word_if (list_any (is_other_scope own) before) mine.name) (both_scopes_after (before ++ own ∷ []) ons) e in
    one both.0 is (λ i. apart_before (before ++ own ∷ []) ons both.1 x y i (among_left y before (own ∷ []) other))
  where
    one : (let mine = own.constraint in word_if (list_any (is_other_scope own) before) mine.name ≡ []) → (x ≡ own) ⊎ IsAmong x ons → (IsAmong x ons → is_other_scope x y ≡ false) → is_other_scope x y ≡ false
    one none (inl same) more = ap (λ (o : ConstraintOn). is_other_scope o y) same ∙ no_other own before y (let mine = own.constraint in no_word (list_any (is_other_scope own) before) mine.name none) other
    one none (inr i) more = more i

never_other : (a : Bool) → not (beq a a) ≡ false
never_other true = refl
never_other false = refl

other_turned : (a b : Bool) → not (beq a b) ≡ not (beq b a)
other_turned true true = refl
other_turned true false = refl
other_turned false true = refl
other_turned false false = refl

not_itself : (x : ConstraintOn) → is_other_scope x x ≡ false
not_itself x =
    let c = x.constraint in
    ap (λ (t : Bool). bytes_eq x.node.text x.node.text && bytes_eq c.name.text c.name.text && t) (never_other c.session)
    ∙ and-false (bytes_eq x.node.text x.node.text && bytes_eq c.name.text c.name.text)

turned : (x y : ConstraintOn) → is_other_scope x y ≡ is_other_scope y x
turned x y =
    let c = x.constraint in let d = y.constraint in
    ap (λ (t : Bool). t && bytes_eq c.name.text d.name.text && not (beq c.session d.session)) (bytes_same.symm x.node.text y.node.text)
    ∙ ap (λ (t : Bool). bytes_eq y.node.text x.node.text && t && not (beq c.session d.session)) (bytes_same.symm c.name.text d.name.text)
    ∙ ap (λ (t : Bool). bytes_eq y.node.text x.node.text && bytes_eq d.name.text c.name.text && t) (other_turned c.session d.session)

apart : (before ons : List ConstraintOn) → both_scopes_after before ons ≡ [] → (x y : ConstraintOn) → IsAmong x ons → IsAmong y ons → is_other_scope x y ≡ false
apart before [] e x y is other = absurd is
apart before (own ∷ ons) e x y is other =
    let mine = own.constraint in
    let both = none_either (word_if (list_any (is_other_scope own) before) mine.name) (both_scopes_after (before ++ own ∷ []) ons) e in
    let last : IsAmong own (before ++ own ∷ []) = among_right own before (own ∷ []) (inl refl) in
    one is other (λ z i. apart_before (before ++ own ∷ []) ons both.1 z own i last) (λ i j. apart (before ++ own ∷ []) ons both.1 x y i j)
  where
    one : (x ≡ own) ⊎ IsAmong x ons → (y ≡ own) ⊎ IsAmong y ons → ((z : ConstraintOn) → IsAmong z ons → is_other_scope z own ≡ false) → (IsAmong x ons → IsAmong y ons → is_other_scope x y ≡ false) → is_other_scope x y ≡ false
    one (inl a) (inl b) later more = ap (λ (o : ConstraintOn). is_other_scope o y) a ∙ ap (is_other_scope own) b ∙ not_itself own
    one (inl a) (inr j) later more = turned x y ∙ ap (is_other_scope y) a ∙ later y j
    one (inr i) (inl b) later more = ap (is_other_scope x) b ∙ later x i
    one (inr i) (inr j) later more = more i j

-- no two of the constraints are of one node, alike in name and of different scopes
pub one_scope : (ons : List ConstraintOn) → both_scopes_after [] ons ≡ [] → (x y : ConstraintOn) → IsAmong x ons → IsAmong y ons → is_other_scope x y ≡ false
one_scope ons none x y is other = apart [] ons none x y is other
