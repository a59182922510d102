-- How the copies are put in place: room, the copies, and the empty cells taken out.
use Rattle.std.proofs.Common.{◌≡◌, ℕ, zero, suc, ◌⊎◌, ◌+◌, ◌<◌, Bool, true, false, cond, List, [], ◌∷◌, ◌++◌, length, get_or, take, drop, Option, Some, None, IsSome, refl, sym, ap, subst, ◌∙◌, inl, inr, arith, unwrap_or}
use Rattle.std.specs.List.{Contains}
use Rattle.std.specs.Map.{lookup}
use Rattle.std.proofs.lemmas.List.{take_more, map-append, length-drop}
use Rattle.std.proofs.Math.Seq.{drop-cons}
use Rattle.std.proofs.lemmas.List.Elements.{Contains-push_cases, Contains-append_left, Contains-get_or, Contains-push}
use Rattle.flux_values.specs.Cells.{CellMap, no_cell}
use Rattle.flow_model.specs.declared.journals.Key.{Key}
use Rattle.flow_model.specs.Keys.{same_key}
use Rattle.flux_cells.specs.Kept.{Kept, kept_at, cells_of, NoneIsEmpty}
use Rattle.flux_cells.specs.steps.Settling.{Touched, keys_in, overlay, AreKept, EmptyOnlyAt}
use Rattle.flux_cells.proofs.CellLemmas.{none_some}
use Rattle.flow_model.proofs.Keys.{key_cases, key_apart, same_key_turned, same_key_itself}
use Rattle.flux_cells.proofs.Keys.{IsChanged, kept_there, kept_else, cells_same}

-- ---- room

pub record HasRoom (old now : Kept) (keys : List Key) (place : ℕ) : Type 0 where
  pub same : cells_of now ≡ cells_of old
  pub empty : EmptyOnlyAt keys now
  pub kept : AreKept (take place keys) now

pub room_none : (old : Kept) (keys : List Key) → NoneIsEmpty old → HasRoom old old keys 0
room_none old keys full = record {
  same = refl;
  empty = λ key is. absurd (full key no_cell is refl);
  kept = λ key is. absurd (omega (arith, is.1));
}

kept_more : (now : Kept) (keys : List Key) (place : ℕ) (d : Key) → place < length keys → AreKept (take place keys) now → IsSome (kept_at now (get_or keys place d)) → AreKept (take (place + 1) keys) now
kept_more now keys place d within kept there key is =
    elim (Contains-push_cases (take place keys) (get_or keys place d) key (subst (λ front. Contains front key) (take_more keys place d within) is)) [
      | inl before ↦ kept key before
      | inr here ↦ subst (λ k. IsSome (kept_at now k)) here there
    ]

-- the key has a cell
pub room_there : (old now : Kept) (keys : List Key) (place : ℕ) (d : Key) → HasRoom old now keys place → place < length keys → IsSome (kept_at now (get_or keys place d)) → HasRoom old now keys (place + 1)
room_there old now keys place d room within there = record { same = room.same; empty = room.empty; kept = kept_more now keys place d within room.kept there }

still_kept : (now after : Kept) (key : Key) (cell : CellMap) → IsChanged now after key (Some cell) → (q : Key) → IsSome (kept_at now q) → IsSome (kept_at after q)
still_kept now after key cell changed q is = key_cases {P = IsSome (kept_at after q)} key q
    (λ _ e. subst IsSome (sym (kept_there now after key (Some cell) changed q e)) refl)
    (λ apart _. subst IsSome (sym (kept_else now after key (Some cell) changed q apart)) is)

-- the key gets an empty one
pub room_more : (old now after : Kept) (keys : List Key) (place : ℕ) (d : Key) → HasRoom old now keys place → place < length keys
    → kept_at now (get_or keys place d) ≡ None → IsChanged now after (get_or keys place d) (Some no_cell) → HasRoom old after keys (place + 1)
room_more old now after keys place d room within none changed = record {
  same = cells_same now after (get_or keys place d) (Some no_cell) changed (sym (ap (λ (o : Option CellMap). unwrap_or o no_cell) none)) ∙ room.same;
  empty = λ q is. key_cases {P = Contains keys q} (get_or keys place d) q
      (λ same _. subst (Contains keys) same (Contains-get_or keys place d within))
      (λ apart _. room.empty q (sym (kept_else now after (get_or keys place d) (Some no_cell) changed q apart) ∙ is));
  kept = kept_more after keys place d within (λ q is. still_kept now after (get_or keys place d) no_cell changed q (room.kept q is))
      (subst IsSome (sym (kept_there now after (get_or keys place d) (Some no_cell) changed (get_or keys place d) (same_key_itself (get_or keys place d)))) refl);
}

-- ---- the empty cells out

pub record IsSwept (old now : Kept) (keys : List Key) (place : ℕ) : Type 0 where
  pub same : cells_of now ≡ cells_of old
  pub empty : EmptyOnlyAt (drop place keys) now

contains_cases : (x : Key) (xs : List Key) (key : Key) → Contains (x ∷ xs) key → (x ≡ key) ⊎ Contains xs key
contains_cases x xs key is = placed is.0 is.1 is.2 where
  placed : (k : ℕ) → k < length (x ∷ xs) → get_or (x ∷ xs) k key ≡ key → (x ≡ key) ⊎ Contains xs key
  placed zero within at = inl at
  placed (suc k) within at = inr (k, omega (arith, within), at)

later : (keys : List Key) (place : ℕ) (d key : Key) → place < length keys → Contains (drop place keys) key → (get_or keys place d ≡ key → ⊥) → Contains (drop (place + 1) keys) key
later keys place d key within is apart =
    elim (contains_cases (get_or keys place d) (drop (suc place) keys) key (subst (λ rest. Contains rest key) (drop-cons keys place d within) is)) [
      | inl here ↦ absurd (apart here)
      | inr after ↦ let next : suc place ≡ place + 1 = omega arith in subst (λ n. Contains (drop n keys) key) next after
    ]

pub swept_past : (old now : Kept) (keys : List Key) (place : ℕ) (d : Key) → IsSwept old now keys place → place < length keys
    → (kept_at now (get_or keys place d) ≡ Some no_cell → ⊥) → IsSwept old now keys (place + 1)
swept_past old now keys place d swept within full = record {
  same = swept.same;
  empty = λ q is. later keys place d q within (swept.empty q is) (λ here. full (ap (kept_at now) here ∙ is));
}

pub swept_out : (old now after : Kept) (keys : List Key) (place : ℕ) (d : Key) → IsSwept old now keys place → place < length keys
    → kept_at now (get_or keys place d) ≡ Some no_cell → IsChanged now after (get_or keys place d) None → IsSwept old after keys (place + 1)
swept_out old now after keys place d swept within empty changed = record {
  same = cells_same now after (get_or keys place d) None changed (sym (ap (λ (o : Option CellMap). unwrap_or o no_cell) empty)) ∙ swept.same;
  empty = λ q is. key_cases {P = Contains (drop (place + 1) keys) q} (get_or keys place d) q
      (λ _ e. none_some no_cell (sym (kept_there now after (get_or keys place d) None changed q e) ∙ is))
      (λ apart _. later keys place d q within (swept.empty q (sym (kept_else now after (get_or keys place d) None changed q apart) ∙ is)) (key_apart _ q apart));
}

pub swept_all : (old now : Kept) (keys : List Key) → IsSwept old now keys (length keys) → NoneIsEmpty now
swept_all old now keys swept key cell is empty =
    let left = swept.empty key (is ∙ ap Some empty) in
    absurd (omega (arith, left.1, length-drop (length keys) keys))

-- ---- the copies in place

pub record IsPlaced (old now : Kept) (all rest : Touched) : Type 0 where
  pub over : overlay rest (cells_of now) ≡ overlay all (cells_of old)
  pub kept : AreKept (keys_in rest) now
  pub among : (key : Key) → Contains (keys_in rest) key → Contains (keys_in all) key
  pub empty : EmptyOnlyAt (keys_in all) now

pub placed_none : (old : Kept) (all : Touched) → AreKept (keys_in all) old → EmptyOnlyAt (keys_in all) old → IsPlaced old old all all
placed_none old all kept empty = record { over = refl; kept = kept; among = λ key is. is; empty = empty }

-- the last copy, under those before it
looked_up : (less : Touched) (key q : Key) (copy cell : CellMap)
    → unwrap_or (lookup (same_key q) (less ++ (key, copy) ∷ [])) cell ≡ unwrap_or (lookup (same_key q) less) (cond (same_key key q) copy cell)
looked_up [] key q copy cell =
    ap (λ (b : Bool). unwrap_or (cond b (Some copy) None) cell) (same_key_turned q key)
    ∙ elim (same_key key q) as (λ b. unwrap_or (cond b (Some copy) None) cell ≡ cond b copy cell) [ true ↦ refl | false ↦ refl ]
looked_up (first ∷ less) key q copy cell =
    elim (same_key q first.0) as (λ b. unwrap_or (cond b (Some first.1) (lookup (same_key q) (less ++ (key, copy) ∷ []))) cell ≡ unwrap_or (cond b (Some first.1) (lookup (same_key q) less)) (cond (same_key key q) copy cell)) [
      | true ↦ refl
      | false ↦ looked_up less key q copy cell
    ]

unwrapped : (b : Bool) (copy : CellMap) (before : Option CellMap) → unwrap_or (cond b (Some copy) before) no_cell ≡ cond b copy (unwrap_or before no_cell)
unwrapped true copy before = refl
unwrapped false copy before = refl

over_more : (now after : Kept) (less : Touched) (key : Key) (copy : CellMap) → IsChanged now after key (Some copy) → overlay less (cells_of after) ≡ overlay (less ++ (key, copy) ∷ []) (cells_of now)
over_more now after less key copy changed = λ i q.
    (ap (unwrap_or (lookup (same_key q) less)) (ap (λ (o : Option CellMap). unwrap_or o no_cell) (changed.at q) ∙ unwrapped (same_key key q) copy (kept_at now q))
    ∙ sym (looked_up less key q copy (cells_of now q))) i

keys_more : (less : Touched) (key : Key) (copy : CellMap) → keys_in (less ++ (key, copy) ∷ []) ≡ keys_in less ++ key ∷ []
keys_more less key copy = map-append (λ (c : Key × CellMap). c.0) less ((key, copy) ∷ [])

pub placed_more : (old now after : Kept) (all rest less : Touched) (key : Key) (copy : CellMap) → IsPlaced old now all rest → rest ≡ less ++ (key, copy) ∷ []
    → IsChanged now after key (Some copy) → IsPlaced old after all less
placed_more old now after all rest less key copy placed last changed =
    let keys = ap keys_in last ∙ keys_more less key copy in
    let front : (q : Key) → Contains (keys_in less) q → Contains (keys_in rest) q = λ q is. subst (λ ks. Contains ks q) (sym keys) (Contains-append_left (keys_in less) (key ∷ []) q is) in
    record {
      over = over_more now after less key copy changed ∙ ap (λ t. overlay t (cells_of now)) (sym last) ∙ placed.over;
      kept = λ q is. still_kept now after key copy changed q (placed.kept q (front q is));
      among = λ q is. placed.among q (front q is);
      empty = λ q is. key_cases {P = Contains (keys_in all) q} key q
          (λ same _. subst (Contains (keys_in all)) same (placed.among key (subst (λ ks. Contains ks key) (sym keys) (Contains-push (keys_in less) key))))
          (λ apart _. placed.empty q (sym (kept_else now after key (Some copy) changed q apart) ∙ is));
    }

pub placed_there : (old now : Kept) (all rest less : Touched) (key : Key) (copy : CellMap) → IsPlaced old now all rest → rest ≡ less ++ (key, copy) ∷ [] → IsSome (kept_at now key)
placed_there old now all rest less key copy placed last =
    placed.kept key (subst (λ ks. Contains ks key) (sym (ap keys_in last ∙ keys_more less key copy)) (Contains-push (keys_in less) key))
