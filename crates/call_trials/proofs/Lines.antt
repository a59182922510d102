-- What the tests' own checks of a call's condition rest on.
use Rattle.std.proofs.Common.{◌≡◌, ◌≢◌, ℕ, Bool, true, false, cond, List, [], ◌∷◌, ◌++◌, Option, Some, None, refl, sym, ap, subst, ◌∙◌, inl, inr, option_map, unwrap_or, is_some}
use Rattle.std.proofs.lemmas.Bool.{false≢true}
use Rattle.std.specs.List.{Contains, All}
use Rattle.std.proofs.lemmas.List.Elements.{All-contains, Contains-push, Contains-push_cases, Contains-append_left}
use Rattle.flux_values.specs.declared.answers.Mode.{Mode}
use Rattle.flux_model.specs.declared.items.FlowNo.{FlowNo}
use Rattle.flow_model.specs.declared.journals.Key.{Key}
use Rattle.flow_model.specs.Keys.{same_key}
use Rattle.flux_model.specs.Modes.{at_least}
use Rattle.flux_table.specs.declared.locks.Held.{Held}
use Rattle.flux_table.specs.declared.locks.Waiter.{Waiter}
use Rattle.flux_table.specs.declared.tables.Taken.{Taken}
use Rattle.flux_table.specs.declared.tables.Taken.TheVariants.{Got, Busy}
use Rattle.flux_table.specs.Tables.{Locks, lines_of}
use Rattle.flux_table.specs.Blockers.{StandsOnlyAt}
use Rattle.flux_table.specs.Changes.{line_without, Takes, Waits, Follows}
use Rattle.call_trials.specs.Stood.{HaveStood}
use Rattle.flow_model.proofs.Keys.{same_key_is}
use Rattle.flux_table.proofs.Orderly.{contains_without}

-- a line that has no new waiters
line_less : (old : Locks) (key k : Key) (line : List Waiter) (waiter : Waiter)
    → (Contains line waiter → Contains (lines_of old key) waiter)
    → (b : Bool) → same_key key k ≡ b → Contains (cond b line (lines_of old k)) waiter
    → Contains (lines_of old k) waiter
line_less old key k line waiter less true same is = subst (λ q. Contains (lines_of old q) waiter)
    (same_key_is key k same) (less is)
line_less old key k line waiter less false apart is = is

pub stood_take : (old new : Locks) (stood : List (Key × Waiter)) (flow : ℕ) (key : Key) (mode : Mode)
    → HaveStood old stood → Takes old new flow key mode → HaveStood new stood
stood_take old new stood flow key mode have takes k waiter is =
    have k waiter (line_less old key k (line_without (lines_of old key) flow) waiter
    (contains_without (lines_of old key) flow waiter) (same_key key k) refl
    (subst (λ lines. Contains (lines k) waiter) takes.lines is))

pub stood_follows : (taken : Taken) (old new : Locks) (stood : List (Key × Waiter)) (flow : ℕ) (key : Key) (mode : Mode)
    → HaveStood old stood → Follows taken old new flow key mode → HaveStood new stood
stood_follows Got old new stood flow key mode have takes = stood_take old new stood flow key mode have takes
stood_follows (Busy holder) old new stood flow key mode have same =
    subst (λ locks. HaveStood locks stood) (sym same) have

line_more : (old : Locks) (stood : List (Key × Waiter)) (key k : Key) (last waiter : Waiter) → HaveStood old stood
    → (b : Bool) → same_key key k ≡ b → Contains (cond b (lines_of old key ++ last ∷ []) (lines_of old k)) waiter
    → Contains (stood ++ (key, last) ∷ []) (k, waiter)
line_more old stood key k last waiter have true same is =
    let here = same_key_is key k same in
    elim (Contains-push_cases (lines_of old key) last waiter is) [
      | inl before ↦ Contains-append_left stood ((key, last) ∷ []) (k, waiter)
          (have k waiter (subst (λ q. Contains (lines_of old q) waiter) here before))
      | inr new ↦ subst (λ (p : Key × Waiter). Contains (stood ++ (key, last) ∷ []) p) (λ i. (here i, new i))
          (Contains-push stood (key, last))
    ]
line_more old stood key k last waiter have false apart is =
    Contains-append_left stood ((key, last) ∷ []) (k, waiter) (have k waiter is)

pub stood_wait : (old new : Locks) (stood : List (Key × Waiter)) (flow : FlowNo) (key : Key) (mode : Mode)
    → HaveStood old stood → Waits old new flow key mode
    → HaveStood new (stood ++ (key, record { flow = flow; mode = mode }) ∷ [])
stood_wait old new stood flow key mode have waits k waiter is =
    line_more old stood key k (record { flow = flow; mode = mode }) waiter have (same_key key k) refl
    (subst (λ lines. Contains (lines k) waiter) waits.lines is)

pub only_at : (locks : Locks) (stood : List (Key × Waiter)) (flow : ℕ) (key : Key) (mode : Mode) → HaveStood locks stood
    → All (λ (s : Key × Waiter). s.1.flow.0 ≡ flow → (s.0 ≡ key) × (s.1.mode ≡ mode)) stood
    → StandsOnlyAt (lines_of locks) flow key mode
only_at locks stood flow key mode have all k waiter is own =
    All-contains (λ (s : Key × Waiter). s.1.flow.0 ≡ flow → (s.0 ≡ key) × (s.1.mode ≡ mode)) stood (k, waiter) all
    (have k waiter is) own

pub nowhere : (locks : Locks) (stood : List (Key × Waiter)) (flow : ℕ) → HaveStood locks stood
    → All (λ (s : Key × Waiter). s.1.flow.0 ≢ flow) stood → (k : Key) (waiter : Waiter)
    → Contains (lines_of locks k) waiter → waiter.flow.0 ≢ flow
nowhere locks stood flow have all k waiter is = All-contains (λ (s : Key × Waiter). s.1.flow.0 ≢ flow) stood (k, waiter)
    all (have k waiter is)

none_some : {X : Type 0} (x : X) → None ≡ Some x → ⊥
none_some {X} x e = subst (λ (o : Option X). elim o as (λ _. Type 0) [ None ↦ Unit {0} | Some y ↦ ⊥ ]) e tt

pub some_none : {X : Type 0} (x : X) → Some x ≡ None → ⊥
some_none x e = none_some x (sym e)

-- what `holds` answers of a holder
pub enough_from : (held : Option Held) (told mode : Mode) → Some told ≡ option_map (λ h. h.mode) held
    → at_least told mode ≡ true
    → (own : Held) → held ≡ Some own → at_least own.mode mode ≡ true
enough_from None told mode tells enough own there = absurd (none_some told (sym tells))
enough_from (Some held) told mode tells enough own there =
    ap (λ (o : Option Held). at_least (unwrap_or (option_map (λ h. h.mode) o) told) mode) (sym there)
    ∙ ap (λ (o : Option Mode). at_least (unwrap_or o told) mode) (sym tells) ∙ enough

pub free_from : (held : Option Held) → None ≡ option_map (λ h. h.mode) held → held ≡ None
free_from None tells = refl
free_from (Some held) tells = absurd (none_some held.mode tells)

pub free_from_none : (held : Option Held) (told : Option Mode) → told ≡ option_map (λ h. h.mode) held
    → is_some told ≡ false → held ≡ None
free_from_none None told tells none = refl
free_from_none (Some held) told tells none = absurd (false≢true (sym none ∙ ap is_some tells))
