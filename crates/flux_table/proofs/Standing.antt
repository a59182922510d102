-- The search for a blocker along a line, and a line that a flow is taken out of.
use Rattle.std.proofs.Common.{◌≡◌, ℕ, suc, ◌+◌, ◌<◌, ◌≤◌, Bool, true, false, not, cond, eqb, List, [], ◌∷◌, ◌++◌, length, get_or, take, ◌⊎◌, Option, Some, None, refl, sym, ap, subst, ◌∙◌, inl, inr, arith, ltb, unwrap_or}
use Rattle.std.proofs.lemmas.Bool.{ltb-false, false≢true, cases_lt}
use Rattle.std.proofs.lemmas.List.{take_more}
use Rattle.std.proofs.lemmas.List.Sums.{prefix_len_passes, prefix_len_stops, prefix_len-le-length}
use Rattle.std.proofs.lemmas.List.Elements.{Contains-append_left, Contains-push, Contains-push_cases}
use Rattle.std.proofs.lemmas.Grind.{common_steps}
use Rattle.std.specs.List.{remove, position, prefix_len, position_or_len}
use Rattle.flux_values.specs.declared.answers.Mode.{Mode}
use Rattle.flux_model.specs.declared.items.FlowNo.{FlowNo}
use Rattle.flux_model.specs.Modes.{conflict}
use Rattle.flux_table.specs.declared.locks.Waiter.{Waiter}
use Rattle.flux_table.specs.Blockers.{StandsAgainst, line_before, IsLowestOf, IsEither}
use Rattle.flux_table.specs.Changes.{line_without}

-- ---- a line that a flow is taken out of

abbrev pub is_of : ℕ → Waiter → Bool
is_of flow waiter = eqb waiter.flow.0 flow

-- the first place of the flow, or the length
pub removed_at : (line : List Waiter) (flow : ℕ) → remove line (position_or_len (is_of flow) line) ≡ line_without line flow
removed_at [] flow = refl
removed_at (waiter ∷ line) flow =
    elim (eqb waiter.flow.0 flow) as (λ b. remove (waiter ∷ line) (cond (not b) (1 + position_or_len (is_of flow) line) 0) ≡ cond b line (waiter ∷ line_without line flow)) [
      | true ↦ refl
      | false ↦ let next : 1 + position_or_len (is_of flow) line ≡ suc (position_or_len (is_of flow) line) = omega arith in
          ap (remove (waiter ∷ line)) next ∙ ap (λ l. waiter ∷ l) (removed_at line flow)
    ]

none_place : {P : Type 0} (place : ℕ) → None ≡ Some place → P
none_place {P} place e = absurd (subst (λ (o : Option ℕ). elim o as (λ _. Type 0) [ None ↦ Unit {0} | Some x ↦ ⊥ ]) e tt)

pub left_there : (line : List Waiter) (flow place : ℕ) → Some place ≡ position (is_of flow) line → remove line place ≡ line_without line flow
left_there line flow place is =
    elim (ltb (position_or_len (is_of flow) line) (length line)) as (λ b. Some place ≡ cond b (Some (position_or_len (is_of flow) line)) None → remove line place ≡ line_without line flow) [
      | true ↦ λ there. ap (λ (o : Option ℕ). remove line (unwrap_or o place)) there ∙ removed_at line flow
      | false ↦ λ no. none_place _ (sym no)
    ] is

remove_past : (line : List Waiter) (place : ℕ) → length line ≤ place → remove line place ≡ line
remove_past line place past = grind (arith, common_steps)

pub left_nowhere : (line : List Waiter) (flow : ℕ) → None ≡ position (is_of flow) line → line ≡ line_without line flow
left_nowhere line flow is =
    let past : length line ≤ position_or_len (is_of flow) line =
    elim (ltb (position_or_len (is_of flow) line) (length line)) as (λ b. ltb (position_or_len (is_of flow) line) (length line) ≡ b → None ≡ cond b (Some (position_or_len (is_of flow) line)) None → length line ≤ position_or_len (is_of flow) line) [
      | true ↦ λ _ no. none_place _ no
      | false ↦ λ test _. ltb-false _ _ test
    ] refl is in
    sym (remove_past line _ past) ∙ removed_at line flow

-- ---- the lowest of some flows

-- the same flows have the same lowest
pub lowest_same : (One Other : ℕ → Type 0) (a : Option FlowNo) → ((n : ℕ) → One n → Other n) → ((n : ℕ) → Other n → One n)
    → IsLowestOf One a → IsLowestOf Other a
lowest_same One Other None to from is = λ n other. is n (from n other)
lowest_same One Other (Some low) to from is = (to low.0 is.0, λ n other. is.1 n (from n other))

not_below : (Is : ℕ → Type 0) (a : Option FlowNo) (low n : ℕ) → IsLowestOf Is a → Is n → ((flow : FlowNo) → a ≡ Some flow → low ≤ flow.0) → low ≤ n
not_below Is None low n is one below = absurd (is n one)
not_below Is (Some flow) low n is one below = omega (arith, is.1 n one, below flow refl)

no_lowest : (Is : ℕ → Type 0) (a : Option FlowNo) (n : ℕ) → IsLowestOf Is a → Is n → ((flow : FlowNo) → a ≡ Some flow → ⊥) → ⊥
no_lowest Is None n is one none = is n one
no_lowest Is (Some flow) n is one none = none flow refl

-- the lower of the lowest of two kinds is the lowest of both
pub lowest_of_both : (One Other Both : ℕ → Type 0) (a b r : Option FlowNo)
    → ((n : ℕ) → One n → Both n) → ((n : ℕ) → Other n → Both n) → ((n : ℕ) → Both n → One n ⊎ Other n)
    → IsLowestOf One a → IsLowestOf Other b → IsLowestOf (IsEither a b) r → IsLowestOf Both r
lowest_of_both One Other Both a b None left right either first second least = λ n both.
    elim (either n both) [
      | inl one ↦ no_lowest One a n first one (λ flow e. least flow.0 (inl e))
      | inr other ↦ no_lowest Other b n second other (λ flow e. least flow.0 (inr e))
    ]
lowest_of_both One Other Both a b (Some low) left right either first second least = (
  elim least.0 [ inl e ↦ left low.0 (subst (IsLowestOf One) e first).0 | inr e ↦ right low.0 (subst (IsLowestOf Other) e second).0 ],
  λ n both. elim (either n both) [
    | inl one ↦ not_below One a low.0 n first one (λ flow e. least.1 flow.0 (inl e))
    | inr other ↦ not_below Other b low.0 n second other (λ flow e. least.1 flow.0 (inr e))
  ],
)

-- ---- one waiter more

stands_still : (line : List Waiter) (waiter : Waiter) (mode : Mode) (n : ℕ) → StandsAgainst line n mode → StandsAgainst (line ++ waiter ∷ []) n mode
stands_still line waiter mode n is = record { their = is.their; stands = Contains-append_left line (waiter ∷ []) _ is.stands; against = is.against }

stands_last : (line : List Waiter) (waiter : Waiter) (mode : Mode) → conflict waiter.mode mode ≡ true → StandsAgainst (line ++ waiter ∷ []) waiter.flow.0 mode
stands_last line waiter mode against = record { their = waiter.mode; stands = Contains-push line waiter; against = against }

stands_cases : (line : List Waiter) (waiter : Waiter) (mode : Mode) (n : ℕ) → StandsAgainst (line ++ waiter ∷ []) n mode
    → StandsAgainst line n mode ⊎ ((waiter.flow.0 ≡ n) × (conflict waiter.mode mode ≡ true))
stands_cases line waiter mode n is =
    elim (Contains-push_cases line waiter _ is.stands) [
      | inl before ↦ inl (record { their = is.their; stands = before; against = is.against })
      | inr last ↦ inr (ap (λ w. w.flow.0) last, ap (λ w. conflict w.mode mode) last ∙ is.against)
    ]

lowest_past : (line : List Waiter) (waiter : Waiter) (mode : Mode) (lowest : Option FlowNo) → conflict waiter.mode mode ≡ false
    → IsLowestOf (λ other. StandsAgainst line other mode) lowest → IsLowestOf (λ other. StandsAgainst (line ++ waiter ∷ []) other mode) lowest
lowest_past line waiter mode lowest peace is =
    lowest_same _ _ lowest (stands_still line waiter mode) (λ n stands. elim (stands_cases line waiter mode n stands) [
      | inl before ↦ before
      | inr last ↦ absurd (false≢true (sym peace ∙ last.1))
    ]) is

lowest_more : (line : List Waiter) (waiter : Waiter) (mode : Mode) (lowest next : Option FlowNo) → conflict waiter.mode mode ≡ true
    → IsLowestOf (λ other. StandsAgainst line other mode) lowest → IsLowestOf (IsEither lowest (Some waiter.flow)) next
    → IsLowestOf (λ other. StandsAgainst (line ++ waiter ∷ []) other mode) next
lowest_more line waiter mode lowest next against is least =
    lowest_of_both (λ n. StandsAgainst line n mode) (λ n. waiter.flow.0 ≡ n) (λ n. StandsAgainst (line ++ waiter ∷ []) n mode) lowest (Some waiter.flow) next
    (stands_still line waiter mode)
    (λ n same. subst (λ m. StandsAgainst (line ++ waiter ∷ []) m mode) same (stands_last line waiter mode against))
    (λ n stands. elim (stands_cases line waiter mode n stands) [ inl before ↦ inl before | inr last ↦ inr last.0 ])
    is (refl, λ n same. omega (arith, same)) least

-- ---- the search along the line

-- the waiters up to a place are searched, and none of them is the flow
pub record IsSearched (line : List Waiter) (flow : ℕ) (mode : Mode) (place : ℕ) (lowest : Option FlowNo) : Type 0 where
  pub low : IsLowestOf (λ other. StandsAgainst (take place line) other mode) lowest
  pub before : place ≤ prefix_len (λ waiter. not (is_of flow waiter)) line

one_more : (line : List Waiter) (place : ℕ) (waiter d : Waiter) → place < length line → waiter ≡ get_or line place d → take (place + 1) line ≡ take place line ++ waiter ∷ []
one_more line place waiter d within at = take_more line place d within ∙ ap (λ w. take place line ++ w ∷ []) (sym at)

before_more : (line : List Waiter) (flow place : ℕ) (waiter d : Waiter) → place ≤ prefix_len (λ w. not (is_of flow w)) line → place < length line
    → waiter ≡ get_or line place d → eqb waiter.flow.0 flow ≡ false → place + 1 ≤ prefix_len (λ w. not (is_of flow w)) line
before_more line flow place waiter d before within at apart =
    elim (cases_lt place (prefix_len (λ w. not (is_of flow w)) line)) [
      | inl less ↦ omega (arith, less)
      | inr reached ↦
          let here : prefix_len (λ w. not (is_of flow w)) line ≡ place = omega (arith, before, reached) in
          let stops = prefix_len_stops (λ w. not (is_of flow w)) line d (omega (arith, within, here)) in
          absurd (false≢true (sym stops ∙ ap (λ k. not (is_of flow (get_or line k d))) here ∙ ap (λ w. not (is_of flow w)) (sym at) ∙ ap not apart))
    ]

pub searched_none : (line : List Waiter) (flow : ℕ) (mode : Mode) → IsSearched line flow mode 0 None
searched_none line flow mode = record { low = λ n stands. absurd (omega (arith, stands.stands.1)); before = omega arith }

pub searched_past : (line : List Waiter) (flow : ℕ) (mode : Mode) (place : ℕ) (lowest : Option FlowNo) (waiter d : Waiter)
    → IsSearched line flow mode place lowest → place < length line → waiter ≡ get_or line place d → eqb waiter.flow.0 flow ≡ false
    → conflict waiter.mode mode ≡ false → IsSearched line flow mode (place + 1) lowest
searched_past line flow mode place lowest waiter d searched within at apart peace = record {
  low = subst (λ front. IsLowestOf (λ other. StandsAgainst front other mode) lowest) (sym (one_more line place waiter d within at)) (lowest_past (take place line) waiter mode lowest peace searched.low);
  before = before_more line flow place waiter d searched.before within at apart;
}

pub searched_more : (line : List Waiter) (flow : ℕ) (mode : Mode) (place : ℕ) (lowest next : Option FlowNo) (waiter d : Waiter)
    → IsSearched line flow mode place lowest → place < length line → waiter ≡ get_or line place d → eqb waiter.flow.0 flow ≡ false
    → conflict waiter.mode mode ≡ true → IsLowestOf (IsEither lowest (Some waiter.flow)) next → IsSearched line flow mode (place + 1) next
searched_more line flow mode place lowest next waiter d searched within at apart against least = record {
  low = subst (λ front. IsLowestOf (λ other. StandsAgainst front other mode) next) (sym (one_more line place waiter d within at)) (lowest_more (take place line) waiter mode lowest next against searched.low least);
  before = before_more line flow place waiter d searched.before within at apart;
}

pub searched_stop : (line : List Waiter) (flow : ℕ) (mode : Mode) (place : ℕ) (lowest : Option FlowNo) (waiter d : Waiter)
    → IsSearched line flow mode place lowest → place < length line → waiter ≡ get_or line place d → eqb waiter.flow.0 flow ≡ true
    → IsLowestOf (λ other. StandsAgainst (line_before line flow) other mode) lowest
searched_stop line flow mode place lowest waiter d searched within at is =
    elim (cases_lt place (prefix_len (λ w. not (is_of flow w)) line)) [
      | inl less ↦
          let passes = prefix_len_passes (λ w. not (is_of flow w)) line place d less in
          absurd (false≢true (ap not (sym is) ∙ ap (λ w. not (is_of flow w)) at ∙ passes))
      | inr reached ↦
          let here : place ≡ prefix_len (λ w. not (is_of flow w)) line = omega (arith, searched.before, reached) in
          subst (λ k. IsLowestOf (λ other. StandsAgainst (take k line) other mode) lowest) here searched.low
    ]

pub searched_all : (line : List Waiter) (flow : ℕ) (mode : Mode) (lowest : Option FlowNo)
    → IsSearched line flow mode (length line) lowest → IsLowestOf (λ other. StandsAgainst (line_before line flow) other mode) lowest
searched_all line flow mode lowest searched =
    let here : length line ≡ prefix_len (λ w. not (is_of flow w)) line = omega (arith, searched.before, prefix_len-le-length (λ w. not (is_of flow w)) line) in
    subst (λ k. IsLowestOf (λ other. StandsAgainst (take k line) other mode) lowest) here searched.low
