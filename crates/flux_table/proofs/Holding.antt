-- What changes of a key's holders keep.
use Rattle.std.proofs.Common.{◌≡◌, ◌≢◌, ℕ, ◌-◌, Bool, true, false, cond, eqb, ltb, List, Option, Some, None, refl, sym, ap, subst, ◌∙◌, inl, inr, IsSome, unwrap_or}
use Rattle.std.specs.Ordering.{nat_cmp, is_eq, is_gt}
use Rattle.std.specs.Map.{lookup}
use Rattle.std.proofs.lemmas.Bool.{cases_eq, eq-eqb, ne_eqb, false≢true}
use Rattle.std.proofs.lemmas.Map.Keys.{le_from_not_gt}
use Rattle.flux_values.specs.declared.answers.Mode.{Mode}
use Rattle.flux_values.specs.declared.answers.Mode.TheVariants.{Reader, Writer}
use Rattle.flux_model.specs.declared.items.FlowNo.{FlowNo}
use Rattle.flux_model.specs.Modes.{conflict}
use Rattle.flow_model.proofs.Keys.{cmp_eqb}
use Rattle.flux_table.specs.declared.locks.Held.{Held}
use Rattle.flux_table.specs.declared.locks.Waiter.{Waiter}
use Rattle.flux_table.specs.Locks.{Holding, held_by, IsPeaceful}
use Rattle.flux_table.specs.Blockers.{HoldsAgainst, Blocks, IsLowestOf}
use Rattle.flux_table.specs.Changes.{with_held, one_more, one_less}

-- ---- modes

pub conflict_turned : (a b : Mode) → conflict a b ≡ conflict b a
conflict_turned Reader Reader = refl
conflict_turned Reader Writer = refl
conflict_turned Writer Reader = refl
conflict_turned Writer Writer = refl

-- what is in no conflict with a mode, and is held beside no conflict with another, lets that mode in
pub conflict_beside : (a b mode : Mode) → conflict a mode ≡ false → conflict b a ≡ false → conflict b mode ≡ false
conflict_beside Writer b mode e h = absurd (cc)
conflict_beside Reader Writer mode e h = absurd (cc)
conflict_beside Reader Reader mode e h = e

-- ---- look-ups in the map of holders

-- a look-up by the order of flows
abbrev pub found : List (FlowNo × Held) → ℕ → Option Held
found holders flow = lookup (λ other. is_eq (nat_cmp flow other.0)) holders

pub found_is : (holders : List (FlowNo × Held)) (flow : ℕ) → found holders flow ≡ held_by holders flow
found_is holders flow = ap (λ (test : FlowNo → Bool). lookup test holders) (λ i other. cmp_eqb flow other.0 i)

-- what the map says of a change is the change of the holding
pub changed_is : (holders after : List (FlowNo × Held)) (flow : ℕ) (now : Option Held)
    → ((q : FlowNo) → found after q.0 ≡ cond (is_eq (nat_cmp flow q.0)) now (found holders q.0))
    → held_by after ≡ with_held (held_by holders) flow now
changed_is holders after flow now says = λ i other.
    (sym (found_is after other) ∙ says (record { 0 = other })
    ∙ ap (λ (b : Bool). cond b now (found holders other)) (cmp_eqb flow other)
    ∙ ap (λ (o : Option Held). cond (eqb flow other) now o) (found_is holders other)) i

-- ---- one flow's holding is changed

pub changed_there : (held : Holding) (flow : ℕ) (now : Option Held) (other : ℕ) → flow ≡ other → with_held held flow now other ≡ now
changed_there held flow now other is = rw (eq-eqb flow other is) refl

pub changed_else : (held : Holding) (flow : ℕ) (now : Option Held) (other : ℕ) → (flow ≡ other → ⊥) → with_held held flow now other ≡ held other
changed_else held flow now other apart = rw (ne_eqb flow other apart) refl

-- the change keeps the peace where the flow's new mode is in no conflict with other holders
peaceful_with : (held : Holding) (flow : ℕ) (now : Option Held) → IsPeaceful held
    → ((own their : Held) (other : ℕ) → now ≡ Some own → flow ≢ other → held other ≡ Some their → conflict own.mode their.mode ≡ false)
    → IsPeaceful (with_held held flow now)
peaceful_with held flow now peaceful fits a b own their apart at_a at_b =
    elim (cases_eq flow a) [
      | inl is ↦ elim (cases_eq flow b) [
        | inl also ↦ absurd (apart (sym is ∙ also))
        | inr not ↦ fits own their b (sym (changed_there held flow now a is) ∙ at_a) not (sym (changed_else held flow now b not) ∙ at_b)
      ]
      | inr not ↦ elim (cases_eq flow b) [
        | inl is ↦ conflict_turned own.mode their.mode ∙ fits their own a (sym (changed_there held flow now b is) ∙ at_b) not (sym (changed_else held flow now a not) ∙ at_a)
        | inr neither ↦ peaceful a b own their apart (sym (changed_else held flow now a not) ∙ at_a) (sym (changed_else held flow now b neither) ∙ at_b)
      ]
    ]

none_some : (own : Held) → None ≡ Some own → ⊥
none_some own e = subst (λ (o : Option Held). elim o as (λ _. Type 0) [ None ↦ Unit {0} | Some x ↦ ⊥ ]) e tt

abbrev mode_or : Mode → Option Held → Mode
mode_or mode None = mode
mode_or mode (Some held) = held.mode

-- a holder that is left holds as before
one_less_mode : (was : Option Held) (own : Held) → one_less was ≡ Some own → (old : Held) × (was ≡ Some old) × (own.mode ≡ old.mode)
one_less_mode None own is = absurd (none_some own is)
one_less_mode (Some old) own is =
    elim (ltb 1 old.count) as (λ b. cond b (Some (record { mode = old.mode; count = old.count - 1 })) None ≡ Some own → (was : Held) × (Some old ≡ Some was) × (own.mode ≡ was.mode)) [
      | true ↦ λ same. (old, refl, ap (λ o. mode_or old.mode o) (sym same))
      | false ↦ λ same. absurd (none_some own same)
    ] is

pub peaceful_less : (held after : Holding) (flow : ℕ) → IsPeaceful held → after ≡ with_held held flow (one_less (held flow)) → IsPeaceful after
peaceful_less held after flow peaceful is =
    subst IsPeaceful (sym is) (peaceful_with held flow (one_less (held flow)) peaceful (λ own their other now apart there.
    let old = one_less_mode (held flow) own now in ap (λ m. conflict m their.mode) old.2 ∙ peaceful flow other old.0 their apart old.1 there))

not_against : (b : Bool) → (b ≡ true → ⊥) → b ≡ false
not_against true h = absurd (h refl)
not_against false h = refl

-- a new holder that no flow blocks, or an old one, is in no conflict with others
fits_more : (held : Holding) (line : List Waiter) (flow : ℕ) (mode : Mode) (was : Option Held) → held flow ≡ was → IsPeaceful held
    → IsLowestOf (λ other. Blocks held line other flow mode) None
    → (own their : Held) (other : ℕ) → Some (one_more was mode) ≡ Some own → flow ≢ other → held other ≡ Some their → conflict own.mode their.mode ≡ false
fits_more held line flow mode None free peaceful unblocked own their other now apart there =
    ap (λ o. conflict (mode_or mode o) their.mode) (sym now) ∙ conflict_turned mode their.mode
    ∙ not_against (conflict their.mode mode) (λ against. unblocked other (record { free = free; apart = λ same. apart (sym same); cause = inl (record { their = their; holds = there; against = against }) }))
fits_more held line flow mode (Some old) is peaceful unblocked own their other now apart there =
    ap (λ o. conflict (mode_or mode o) their.mode) (sym now) ∙ peaceful flow other old their apart is there

pub peaceful_more : (held after : Holding) (line : List Waiter) (flow : ℕ) (mode : Mode) → IsPeaceful held
    → IsLowestOf (λ other. Blocks held line other flow mode) None
    → after ≡ with_held held flow (Some (one_more (held flow) mode)) → IsPeaceful after
peaceful_more held after line flow mode peaceful unblocked is =
    subst IsPeaceful (sym is) (peaceful_with held flow _ peaceful (fits_more held line flow mode (held flow) refl peaceful unblocked))

same_held : (a b : Held) → Some a ≡ Some b → a ≡ b
same_held a b e = ap (λ (o : Option Held). unwrap_or o a) e

-- ---- the first holder

pub first_against : (holders : List (FlowNo × Held)) (first : FlowNo) (held : Held) (mode : Mode) → found holders first.0 ≡ Some held
    → ((other : FlowNo) → IsSome (found holders other.0) → is_gt (nat_cmp first.0 other.0) ≡ false)
    → conflict held.mode mode ≡ true → IsLowestOf (λ other. HoldsAgainst (held_by holders) other mode) (Some first)
first_against holders first held mode there least against = (
  record { their = held; holds = sym (found_is holders first.0) ∙ there; against = against },
  λ other holds. le_from_not_gt first.0 other (least (record { 0 = other }) (subst IsSome (sym (found_is holders other ∙ holds.holds)) refl)),
)

-- where the first holder is in no conflict with a mode, none is
pub none_against : (holders : List (FlowNo × Held)) (first : FlowNo) (held : Held) (mode : Mode) → found holders first.0 ≡ Some held
    → IsPeaceful (held_by holders) → conflict held.mode mode ≡ false → IsLowestOf (λ other. HoldsAgainst (held_by holders) other mode) None
none_against holders first held mode there peaceful peace = λ other holds.
    let first_there = sym (found_is holders first.0) ∙ there in
    elim (cases_eq first.0 other) [
      | inl same ↦
          let one : held ≡ holds.their = same_held held holds.their (sym first_there ∙ ap (held_by holders) same ∙ holds.holds) in
          false≢true (sym peace ∙ ap (λ h. conflict h.mode mode) one ∙ holds.against)
      | inr apart ↦
          let beside = peaceful other first.0 holds.their held (λ e. apart (sym e)) holds.holds first_there in
          false≢true (sym (conflict_beside held.mode holds.their.mode mode peace beside) ∙ holds.against)
    ]
