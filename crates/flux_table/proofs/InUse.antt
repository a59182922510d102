-- Locks in use: they have a holder or a waiter.
use Rattle.std.proofs.Common.{◌≡◌, ◌≢◌, ℕ, Bool, true, false, cond, List, [], ◌∷◌, ◌++◌, length, Option, Some, Result, Ok, Err, refl, sym, ap, ◌∙◌, arith}
use Rattle.std.specs.Prelude.{OnOk, OnErr}
use Rattle.std.proofs.lemmas.Bool.{eq-eqb}
use Rattle.std.proofs.lemmas.Option.{none-some}
use Rattle.flow_model.specs.declared.journals.Key.{Key}
use Rattle.flow_model.specs.Keys.{same_key}
use Rattle.flux_table.specs.declared.locks.Held.{Held}
use Rattle.flux_table.specs.declared.locks.Waiter.{Waiter}
use Rattle.flux_table.specs.Locks.{LockState, Holding, held_by}
use Rattle.flux_table.specs.Tables.{Locks, lock_at, holding_in, line_in, AreInUse}
use Rattle.flux_table.specs.Changes.{with_held}
use Rattle.flux_table.proofs.Keys.{IsChanged}

-- a lock that no flow holds or waits for
abbrev pub idle : LockState
idle = record { holders = []; line = [] }

used_cond : (b : Bool) (now old : Option LockState) → now ≢ Some idle → old ≢ Some idle → cond b now old ≢ Some idle
used_cond true now old one other = one
used_cond false now old one other = other

-- where one key's lock has changed to one in use, or to none, all are in use as before
pub in_use_after : (before after : Locks) (key : Key) (now : Option LockState) → IsChanged before after key now
    → AreInUse before → now ≢ Some idle → AreInUse after
in_use_after before after key now is used busy q same =
    used_cond (same_key key q) now (lock_at before q) busy (used q) (sym (is.at q) ∙ same)

-- ---- a lock with a holder, and one with a waiter

held_in_use : (lock : LockState) (flow : ℕ) (held : Held) → held_by lock.holders flow ≡ Some held → Some lock ≢ Some idle
held_in_use lock flow held is same = none-some held (sym (ap (λ (o : Option LockState). holding_in o flow) same) ∙ is)

-- as a take writes a holder
pub holder_in_use : (lock : LockState) (before : Holding) (flow : ℕ) (held : Held)
    → held_by lock.holders ≡ with_held before flow (Some held) → Some lock ≢ Some idle
holder_in_use lock before flow held is =
    held_in_use lock flow held (ap (λ (h : Holding). h flow) is
    ∙ ap (λ (b : Bool). cond b (Some held) (before flow)) (eq-eqb flow flow refl))

not_empty : (line : List Waiter) (waiter : Waiter) → line ++ waiter ∷ [] ≡ [] → ⊥
not_empty [] waiter same = let n = ap length same in absurd (omega (arith, n))
not_empty (first ∷ line) waiter same = let n = ap length same in absurd (omega (arith, n))

-- as a wait writes a line
pub waited_in_use : (lock : LockState) (line : List Waiter) (waiter : Waiter) → lock.line ≡ line ++ waiter ∷ [] → Some lock ≢ Some idle
waited_in_use lock line waiter is same = not_empty line waiter (sym is ∙ ap line_in same)

-- ---- whether or not there was memory

-- after a take
pub taken_in_use : {E : Type 0} (r : Result (Unit {0}) E) (old new : LockState) (flow : ℕ) (held : Held)
    → OnOk r (held_by new.holders ≡ with_held (held_by old.holders) flow (Some held)) → OnErr r (new ≡ old)
    → Some old ≢ Some idle → Some new ≢ Some idle
taken_in_use (Ok u) old new flow held ok err used =
    holder_in_use new (held_by old.holders) flow held ok
taken_in_use (Err e) old new flow held ok err used = λ same. used (sym (ap Some err) ∙ same)

-- after a wait
pub stood_in_use : {E : Type 0} (r : Result (Unit {0}) E) (old new : LockState) (waiter : Waiter)
    → OnOk r (new.line ≡ old.line ++ waiter ∷ []) → OnErr r (new ≡ old)
    → Some old ≢ Some idle → Some new ≢ Some idle
stood_in_use (Ok u) old new waiter ok err used = waited_in_use new old.line waiter ok
stood_in_use (Err e) old new waiter ok err used = λ same. used (sym (ap Some err) ∙ same)
