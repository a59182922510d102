-- Look-ups in the map of locks, and what a change there does to the two maps.
use Rattle.std.proofs.Common.{◌≡◌, ℕ, Bool, true, false, cond, [], ◌∷◌, ◌++◌, Option, Some, None, Result, Ok, Err, refl, sym, ap, ◌∙◌}
use Rattle.std.specs.Ordering.{is_eq}
use Rattle.std.specs.Prelude.{OnOk}
use Rattle.std.specs.Map.{lookup, set_value}
use Rattle.std.proofs.lemmas.Map.Steps.{set_value_same}
use Rattle.flux_values.specs.declared.answers.Mode.{Mode}
use Rattle.flux_model.specs.declared.items.FlowNo.{FlowNo}
use Rattle.flow_model.specs.declared.journals.Key.{Key}
use Rattle.flow_model.specs.Keys.{same_key}
use Rattle.flow_model.proofs.Keys.{key_cmp, key_cmp_same, same_key_is}
use Rattle.flux_table.specs.Locks.{LockState, held_by}
use Rattle.flux_table.specs.Tables.{Locks, lock_at, holders_of, lines_of, holding_in, line_in}
use Rattle.flux_table.specs.Changes.{with_held, with_holding, with_line, one_more, one_less, line_without, Takes, Waits, Releases}

abbrev pub found : Locks → Key → Option LockState
found locks key = lookup (λ other. is_eq (key_cmp key other)) locks

pub found_is : (locks : Locks) (key : Key) → found locks key ≡ lock_at locks key
found_is locks key = ap (λ (test : Key → Bool). lookup test locks) (λ i other. key_cmp_same key other i)

-- a table after the lock of one key has changed
pub record IsChanged (before after : Locks) (key : Key) (now : Option LockState) : Type 0 where
  pub at : (q : Key) → lock_at after q ≡ cond (same_key key q) now (lock_at before q)

pub changed_is : (before after : Locks) (key : Key) (now : Option LockState)
    → ((q : Key) → found after q ≡ cond (is_eq (key_cmp key q)) now (found before q)) → IsChanged before after key now
changed_is before after key now says = record {
  at = λ q. sym (found_is after q) ∙ says q
      ∙ ap (λ (b : Bool). cond b now (found before q)) (key_cmp_same key q)
      ∙ ap (λ (o : Option LockState). cond (same_key key q) now o) (found_is before q);
}

holding_cond : (b : Bool) (x y : Option LockState) → holding_in (cond b x y) ≡ cond b (holding_in x) (holding_in y)
holding_cond true x y = refl
holding_cond false x y = refl

line_cond : (b : Bool) (x y : Option LockState) → line_in (cond b x y) ≡ cond b (line_in x) (line_in y)
line_cond true x y = refl
line_cond false x y = refl

pub holders_changed : (before after : Locks) (key : Key) (now : Option LockState) → IsChanged before after key now
    → holders_of after ≡ with_holding (holders_of before) key (holding_in now)
holders_changed before after key now is = λ i q. (ap holding_in (is.at q) ∙ holding_cond (same_key key q) now (lock_at before q)) i

pub lines_changed : (before after : Locks) (key : Key) (now : Option LockState) → IsChanged before after key now
    → lines_of after ≡ with_line (lines_of before) key (line_in now)
lines_changed before after key now is = λ i q. (ap line_in (is.at q) ∙ line_cond (same_key key q) now (lock_at before q)) i

same_cond : {X : Type 0} (f : Key → X) (key q : Key) (b : Bool) → same_key key q ≡ b → cond b (f key) (f q) ≡ f q
same_cond f key q true same = ap f (same_key_is key q same)
same_cond f key q false apart = refl

-- what stays at the key stays at each
same_holders : (before : Locks) (key : Key) → with_holding (holders_of before) key (holders_of before key) ≡ holders_of before
same_holders before key = λ i q. same_cond (holders_of before) key q (same_key key q) refl i

same_lines : (before : Locks) (key : Key) → with_line (lines_of before) key (lines_of before key) ≡ lines_of before
same_lines before key = λ i q. same_cond (lines_of before) key q (same_key key q) refl i

-- ---- the three changes

pub takes_is : (before after : Locks) (flow : ℕ) (key : Key) (mode : Mode) (old now : Option LockState) → IsChanged before after key now
    → lock_at before key ≡ old
    → holding_in now ≡ with_held (holding_in old) flow (Some (one_more (holding_in old flow) mode))
    → line_in now ≡ line_without (line_in old) flow → Takes before after flow key mode
takes_is before after flow key mode old now is was held line = record {
  holders = holders_changed before after key now is
      ∙ ap (with_holding (holders_of before) key) (held ∙ ap (λ (o : Option LockState). with_held (holding_in o) flow (Some (one_more (holding_in o flow) mode))) (sym was));
  lines = lines_changed before after key now is
      ∙ ap (with_line (lines_of before) key) (line ∙ ap (λ (o : Option LockState). line_without (line_in o) flow) (sym was));
}

pub waits_is : (before after : Locks) (flow : FlowNo) (key : Key) (mode : Mode) (old now : Option LockState) → IsChanged before after key now
    → lock_at before key ≡ old → holding_in now ≡ holding_in old
    → line_in now ≡ line_in old ++ record { flow = flow; mode = mode } ∷ [] → Waits before after flow key mode
waits_is before after flow key mode old now is was held line = record {
  holders = holders_changed before after key now is
      ∙ ap (with_holding (holders_of before) key) (held ∙ ap holding_in (sym was)) ∙ same_holders before key;
  lines = lines_changed before after key now is
      ∙ ap (with_line (lines_of before) key) (line ∙ ap (λ (o : Option LockState). line_in o ++ record { flow = flow; mode = mode } ∷ []) (sym was));
}

pub releases_is : (before after : Locks) (flow : ℕ) (key : Key) (old now : Option LockState) → IsChanged before after key now
    → lock_at before key ≡ old → holding_in now ≡ with_held (holding_in old) flow (one_less (holding_in old flow))
    → line_in now ≡ line_in old → Releases before after flow key
releases_is before after flow key old now is was held line = record {
  holders = holders_changed before after key now is
      ∙ ap (with_holding (holders_of before) key) (held ∙ ap (λ (o : Option LockState). with_held (holding_in o) flow (one_less (holding_in o flow))) (sym was));
  lines = lines_changed before after key now is
      ∙ ap (with_line (lines_of before) key) (line ∙ ap line_in (sym was)) ∙ same_lines before key;
}

-- ---- what calls say

pub both_ok : {E P Q R : Type 0} (r : Result (Unit {0}) E) → OnOk r P → OnOk r Q → (P → Q → R) → OnOk r R
both_ok (Ok u) p q f = f p q
both_ok (Err e) p q f = p

-- a lock that is written back unchanged
pub unchanged : (locks after : Locks) (key : Key) (lock now : LockState) → after ≡ set_value (λ other. is_eq (key_cmp key other)) locks now
    → Some lock ≡ found locks key → now ≡ lock → after ≡ locks
unchanged locks after key lock now written there same =
    written ∙ ap (set_value (λ other. is_eq (key_cmp key other)) locks) same ∙ set_value_same (λ other. is_eq (key_cmp key other)) locks lock (sym there)

cond_twice : (b : Bool) (x y z : Option LockState) → cond b x (cond b y z) ≡ cond b x z
cond_twice true x y z = refl
cond_twice false x y z = refl

-- a lock that is written and then taken out
pub changed_twice : (before between after : Locks) (key : Key) (first now : Option LockState)
    → ((q : Key) → found between q ≡ cond (is_eq (key_cmp key q)) first (found before q))
    → ((q : Key) → found after q ≡ cond (is_eq (key_cmp key q)) now (found between q)) → IsChanged before after key now
changed_twice before between after key first now one other =
    changed_is before after key now (λ q. other q ∙ ap (cond (is_eq (key_cmp key q)) now) (one q) ∙ cond_twice (is_eq (key_cmp key q)) now first (found before q))

-- a lock without holders and waiters holds as none at all
pub idle_holding : (lock : LockState) → lock ≡ record { holders = []; line = [] } → holding_in (Some lock) ≡ holding_in None
idle_holding lock idle = ap (λ (l : LockState). held_by l.holders) idle

pub idle_line : (lock : LockState) → lock ≡ record { holders = []; line = [] } → line_in (Some lock) ≡ line_in None
idle_line lock idle = ap (λ (l : LockState). l.line) idle
