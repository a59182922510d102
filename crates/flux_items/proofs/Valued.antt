-- What the reader has of values one after another.
use Rattle.std.proofs.Common.{◌≡◌, ℕ, ◌<◌, ◌≤◌, Bool, true, false, List, [], ◌∷◌, ◌++◌, length, map, take, drop, get_or, Ok, Err, refl, sym, ap, ◌∙◌, subst, append_assoc, arith}
use Rattle.std.proofs.lemmas.List.{append-nil, length-map}
use Rattle.flux_values.specs.declared.failures.ValueFault.TheVariants as faults
use Rattle.flux_values.specs.declared.values.Kind.{Kind}
use Rattle.flux_values.specs.declared.values.Value.{Value}
use Rattle.flux_values.specs.Values.{kind_of}
use Rattle.flux_values.specs.Spellings.{BeginsSpelled, HasCause}
use Rattle.flux_spelling.proofs.Causes.{one_value, too_long_no_value}
use Rattle.flux_items.specs.steps.Fronts.{past_blanks, Ends}
use Rattle.flux_items.specs.steps.Values.{IsValueThen, Follow, Close, IsKept, GoesOn, AreSoFar, HaveOtherKinds}

-- ---- one value

abbrev NoneHere : List ℕ → Type 0
NoneHere text = (value : Value) (values : List Value) → Close (value ∷ values) text → ⊥

pub bad_value : (text front : List ℕ) (at : ℕ) → front ≡ past_blanks text → HasCause (Err (faults.BadValue at)) front → NoneHere text
bad_value text front at same cause value values close = cause.no_value value close.n (subst (λ (l : List ℕ). BeginsSpelled l value close.n) (sym same) close.begins)

pub too_long : (text front : List ℕ) (at : ℕ) → front ≡ past_blanks text → HasCause (Err (faults.TooLong at)) front → NoneHere text
too_long text front at same cause value values close = too_long_no_value front at value close.n cause (subst (λ (l : List ℕ). BeginsSpelled l value close.n) (sym same) close.begins)

-- a value that was read, and what follows it
pub value_read : (text front rest : List ℕ) (v : Value) (n : ℕ) (Then : List ℕ → Type 0) → front ≡ past_blanks text → HasCause (Ok (v, n)) front → rest ≡ past_blanks (drop n front) → Then rest → IsValueThen v text Then
value_read text front rest v n Then same cause is then_ = record {
  n = n;
  begins = subst (λ (l : List ℕ). BeginsSpelled l v n) same cause.begins;
  then_ = subst Then (is ∙ ap (λ (l : List ℕ). past_blanks (drop n l)) same) then_;
}

-- no other value is there
record SameThen (v : Value) (text : List ℕ) (Then : List ℕ → Type 0) (w : Value) (n : ℕ) : Type 0 where
  value : v ≡ w
  then_ : Then (past_blanks (drop n (past_blanks text)))

same_then : (text : List ℕ) (v w : Value) (n : ℕ) (Then : List ℕ → Type 0) → BeginsSpelled (past_blanks text) w n → IsValueThen v text Then → SameThen v text Then w n
same_then text v w n Then begins then_ =
    let one = one_value (past_blanks text) v w then_.n n then_.begins begins in
    record { value = one.value; then_ = subst (λ (m : ℕ). Then (past_blanks (drop m (past_blanks text)))) one.long then_.then_ }

pub none_behind : (text front rest : List ℕ) (v : Value) (n : ℕ) → front ≡ past_blanks text → HasCause (Ok (v, n)) front → rest ≡ past_blanks (drop n front)
    → ((behind : List ℕ) → rest ≡ 44 ∷ behind → ⊥) → (Ends rest → ⊥) → NoneHere text
none_behind text front rest v n same cause is no_comma no_end value values close = follows values (subst (Follow values) (sym (is ∙ ap (λ (l : List ℕ). past_blanks (drop n l)) same)) (same_then text value v n (Follow values) (subst (λ (l : List ℕ). BeginsSpelled l v n) same cause.begins) close).then_)
  where
    follows : (vs : List Value) → Follow vs rest → ⊥
    follows [] ends = no_end ends
    follows (w ∷ vs) more = no_comma (drop 1 rest) more.0

-- ---- the values so far

pub first_values : (kinds : List Kind) (text : List ℕ) → (Ends (past_blanks text) → ⊥) → AreSoFar kinds text text [] true
first_values kinds text no_end = record { all = []; keeps = (refl, omega arith, refl); on = λ value values close. close; only = goes }
  where
    goes : (values : List Value) → Close values text → GoesOn [] values text
    goes [] close = absurd (no_end close)
    goes (v ∷ vs) close = record { value = v; more = vs; are = refl; close = close }

-- a value with a comma after it
abbrev IsBeforeComma : Value → List ℕ → List ℕ → Type 0
IsBeforeComma v rest behind = IsValueThen v rest (λ l. l ≡ 44 ∷ behind)

before_more : (v w : Value) (vs : List Value) (rest behind : List ℕ) → IsBeforeComma v rest behind → Close (w ∷ vs) behind → Close (v ∷ w ∷ vs) rest
before_more v w vs rest behind comma close = record {
  n = comma.n;
  begins = comma.begins;
  then_ = subst (Follow (w ∷ vs)) (sym comma.then_) (refl, close);
}

comma_no_end : (behind : List ℕ) → Ends (44 ∷ behind) → ⊥
comma_no_end behind ends = let e : 44 ≡ 41 = ap (λ (l : List ℕ). get_or l 0 0) ends.closed in omega (arith, e)

goes_more : (all values rest behind : _) (v : Value) → IsBeforeComma v rest behind → GoesOn all values rest → GoesOn (all ++ v ∷ []) values behind
goes_more all values rest behind v comma on = more on.more on.are (same_then rest on.value v comma.n (Follow on.more) comma.begins on.close)
  where
    more : (vs : List Value) → values ≡ all ++ on.value ∷ vs → SameThen on.value rest (Follow vs) v comma.n → GoesOn (all ++ v ∷ []) values behind
    more [] are same = absurd (comma_no_end behind (subst Ends comma.then_ same.then_))
    more (w ∷ vs) are same =
        let h : Follow (w ∷ vs) (44 ∷ behind) = subst (Follow (w ∷ vs)) comma.then_ same.then_ in
        record {
          value = w;
          more = vs;
          are = are ∙ ap (λ (x : Value). all ++ x ∷ w ∷ vs) same.value ∙ sym (append_assoc all (v ∷ []) (w ∷ vs));
          close = h.1;
        }

pub more_values : (kinds : List Kind) (text rest behind : List ℕ) (kept new : List Value) (fits fits_ : Bool) (v : Value) → AreSoFar kinds text rest kept fits → IsBeforeComma v rest behind
    → ((all : List Value) → IsKept kinds all kept fits → IsKept kinds (all ++ v ∷ []) new fits_) → AreSoFar kinds text behind new fits_
more_values kinds text rest behind kept new fits fits_ v so comma add = record {
  all = so.all ++ v ∷ [];
  keeps = add so.all so.keeps;
  on = λ w ws close. subst (λ (l : List Value). Close l text) (sym (append_assoc so.all (v ∷ []) (w ∷ ws))) (so.on v (w ∷ ws) (before_more v w ws rest behind comma close));
  only = λ values close. goes_more so.all values rest behind v comma (so.only values close);
}

pub no_values : (kinds : List Kind) (text rest : List ℕ) (kept : List Value) (fits : Bool) → AreSoFar kinds text rest kept fits → NoneHere rest → (values : List Value) → Close values text → ⊥
no_values kinds text rest kept fits so none values close = let on = so.only values close in none on.value on.more on.close

-- ---- values of other kinds

pub other_kinds : (kinds : List Kind) (all kept : List Value) (text : List ℕ) → IsKept kinds all kept false → Close all text → HaveOtherKinds kinds text
other_kinds kinds all kept text keeps close = record {
  values = all;
  close = close;
  other = λ e. keeps [] (ap (map kind_of) (append-nil all) ∙ e);
}

pub fewer_kinds : (kinds : List Kind) (all kept : List Value) (text : List ℕ) → (length kept ≡ length kinds → ⊥) → IsKept kinds all kept true → Close all text → HaveOtherKinds kinds text
fewer_kinds kinds all kept text fewer keeps close = record {
  values = all;
  close = close;
  other = λ e. fewer (ap length keeps.0 ∙ sym (length-map all kind_of) ∙ ap length e);
}
