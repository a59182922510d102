-- Copies that lie over cells, and what puts do to them.
use Rattle.std.proofs.Common.{◌≡◌, ℕ, suc, ◌+◌, ◌<◌, ◌≤◌, Bool, true, false, not, cond, ltb, List, [], ◌∷◌, ◌++◌, length, get_or, set, take, map, Option, Some, None, refl, sym, ap, ◌∙◌, arith, unwrap_or}
use Rattle.std.specs.List.{position, position_or_len}
use Rattle.std.specs.Map.{lookup}
use Rattle.std.proofs.lemmas.Bool.{false≢true, ltb-false}
use Rattle.std.proofs.lemmas.List.{take_more, map-append}
use Rattle.flux_values.specs.declared.answers.Put.{Put}
use Rattle.flux_values.specs.Cells.{CellMap, changed}
use Rattle.flux_model.specs.declared.programs.Program.{Program}
use Rattle.flow_model.specs.declared.journals.Key.{Key}
use Rattle.flow_model.specs.Keys.{Cells, same_key}
use Rattle.flow_model.specs.CellsAfter.{is_named, put_under}
use Rattle.flux_cells.specs.Applied.{class_of, key_named, applied}
use Rattle.flux_cells.specs.steps.Settling.{Touched, keys_in, overlay, with_put, with_puts}
use Rattle.flux_cells.proofs.CellLemmas.{none_some}
use Rattle.flow_model.proofs.Keys.{key_cases, same_key_is, same_key_turned}

-- ---- one put

-- whether a copy's class has a put's cell name
abbrev pub is_meant : Program → List ℕ → Key × CellMap → Bool
is_meant p name copy = is_named name (class_of p copy.0)

abbrev put_to : Put → Key × CellMap → Key × CellMap
put_to put copy = (copy.0, changed copy.1 put.name put.value)

set_first : (p : Program) (touched : Touched) (put : Put) (d : Key × CellMap)
    → set touched (position_or_len (is_meant p put.cell) touched) (put_to put (get_or touched (position_or_len (is_meant p put.cell) touched) d)) ≡ with_put p touched put
set_first p [] put d = refl
set_first p (copy ∷ touched) put d =
    elim (is_meant p put.cell copy) as (λ b. set (copy ∷ touched) (cond (not b) (1 + position_or_len (is_meant p put.cell) touched) 0)
    (put_to put (get_or (copy ∷ touched) (cond (not b) (1 + position_or_len (is_meant p put.cell) touched) 0) d)) ≡ cond b (put_to put copy ∷ touched) (copy ∷ with_put p touched put)) [
      | true ↦ refl
      | false ↦ let next : 1 + position_or_len (is_meant p put.cell) touched ≡ suc (position_or_len (is_meant p put.cell) touched) = omega arith in
          ap (λ n. set (copy ∷ touched) n (put_to put (get_or (copy ∷ touched) n d))) next ∙ ap (λ t. copy ∷ t) (set_first p touched put d)
    ]

pub put_there : (p : Program) (touched : Touched) (put : Put) (place : ℕ) (d : Key × CellMap) → Some place ≡ position (is_meant p put.cell) touched
    → set touched place (put_to put (get_or touched place d)) ≡ with_put p touched put
put_there p touched put place d is =
    let first = position_or_len (is_meant p put.cell) touched in
    elim (ltb first (length touched)) as (λ b. Some place ≡ cond b (Some first) None → set touched place (put_to put (get_or touched place d)) ≡ with_put p touched put) [
      | true ↦ λ there. ap (λ (o : Option ℕ). let n = unwrap_or o place in set touched n (put_to put (get_or touched n d))) there ∙ set_first p touched put d
      | false ↦ λ no. none_some place (sym no)
    ] is

put_past : (p : Program) (touched : Touched) (put : Put) → length touched ≤ position_or_len (is_meant p put.cell) touched → touched ≡ with_put p touched put
put_past p [] put = λ _. refl
put_past p (copy ∷ touched) put =
    elim (is_meant p put.cell copy) as (λ b. length (copy ∷ touched) ≤ cond (not b) (1 + position_or_len (is_meant p put.cell) touched) 0 → copy ∷ touched ≡ cond b (put_to put copy ∷ touched) (copy ∷ with_put p touched put)) [
      | true ↦ λ past. absurd (omega (arith, past))
      | false ↦ λ past. ap (λ t. copy ∷ t) (put_past p touched put (omega (arith, past)))
    ]

pub put_nowhere : (p : Program) (touched : Touched) (put : Put) → None ≡ position (is_meant p put.cell) touched → touched ≡ with_put p touched put
put_nowhere p touched put is =
    let first = position_or_len (is_meant p put.cell) touched in
    elim (ltb first (length touched)) as (λ b. ltb first (length touched) ≡ b → None ≡ cond b (Some first) None → touched ≡ with_put p touched put) [
      | true ↦ λ _ no. none_some first no
      | false ↦ λ test _. put_past p touched put (ltb-false _ _ test)
    ] refl is

-- ---- many puts

pub with_puts-append : (p : Program) (touched : Touched) (puts more : List Put) → with_puts p touched (puts ++ more) ≡ with_puts p (with_puts p touched puts) more
with_puts-append p touched [] more = refl
with_puts-append p touched (put ∷ puts) more = with_puts-append p (with_put p touched put) puts more

pub with_puts_more : (p : Program) (touched now after : Touched) (puts : List Put) (place : ℕ) (d : Put) → now ≡ with_puts p touched (take place puts) → place < length puts
    → after ≡ with_put p now (get_or puts place d) → after ≡ with_puts p touched (take (place + 1) puts)
with_puts_more p touched now after puts place d so_far within next =
    next ∙ ap (λ t. with_put p t (get_or puts place d)) so_far ∙ sym (with_puts-append p touched (take place puts) (get_or puts place d ∷ []))
    ∙ ap (with_puts p touched) (sym (take_more puts place d within))

-- ---- what lies over the cells

keys-with_put : (p : Program) (touched : Touched) (put : Put) → keys_in (with_put p touched put) ≡ keys_in touched
keys-with_put p [] put = refl
keys-with_put p (copy ∷ touched) put =
    elim (is_meant p put.cell copy) as (λ b. keys_in (cond b (put_to put copy ∷ touched) (copy ∷ with_put p touched put)) ≡ copy.0 ∷ keys_in touched) [
      | true ↦ refl
      | false ↦ ap (λ ks. copy.0 ∷ ks) (keys-with_put p touched put)
    ]

pub keys-with_puts : (p : Program) (touched : Touched) (puts : List Put) → keys_in (with_puts p touched puts) ≡ keys_in touched
keys-with_puts p touched [] = refl
keys-with_puts p touched (put ∷ puts) = keys-with_puts p (with_put p touched put) puts ∙ keys-with_put p touched put

over_first : (copy : Key × CellMap) (touched : Touched) (cells : Cells) (q : Key) → same_key q copy.0 ≡ true → overlay (copy ∷ touched) cells q ≡ copy.1
over_first copy touched cells q same = ap (λ (b : Bool). unwrap_or (cond b (Some copy.1) (lookup (same_key q) touched)) (cells q)) same

over_rest : (copy : Key × CellMap) (touched : Touched) (cells : Cells) (q : Key) → same_key q copy.0 ≡ false → overlay (copy ∷ touched) cells q ≡ overlay touched cells q
over_rest copy touched cells q apart = ap (λ (b : Bool). unwrap_or (cond b (Some copy.1) (lookup (same_key q) touched)) (cells q)) apart

named_is : (p : Program) (keys : List Key) (name : List ℕ) (key : Key) → key_named p keys name ≡ Some key → is_named name (class_of p key) ≡ true
named_is p [] name key = λ is. none_some key is
named_is p (first ∷ keys) name key =
    elim (is_named name (class_of p first)) as (λ b. is_named name (class_of p first) ≡ b → cond b (Some first) (key_named p keys name) ≡ Some key → is_named name (class_of p key) ≡ true) [
      | true ↦ λ named is. ap (λ (o : Option Key). is_named name (class_of p (unwrap_or o first))) (sym is) ∙ named
      | false ↦ λ _ is. named_is p keys name key is
    ] refl

-- a put to the first copy
over_here : (copy : Key × CellMap) (touched : Touched) (cells : Cells) (put : Put) (q : Key)
    → overlay (put_to put copy ∷ touched) cells q ≡ put_under (overlay (copy ∷ touched) cells) put (Some copy.0) q
over_here copy touched cells put q =
    elim (same_key q copy.0) as (λ b. same_key q copy.0 ≡ b → overlay (put_to put copy ∷ touched) cells q ≡ put_under (overlay (copy ∷ touched) cells) put (Some copy.0) q) [
      | true ↦ λ same. over_first (put_to put copy) touched cells q same ∙ sym (ap (λ (b : Bool). cond b (changed (overlay (copy ∷ touched) cells q) put.name put.value) (overlay (copy ∷ touched) cells q)) (same_key_turned copy.0 q ∙ same)
          ∙ ap (λ cell. changed cell put.name put.value) (over_first copy touched cells q same))
      | false ↦ λ apart. over_rest (put_to put copy) touched cells q apart ∙ sym (ap (λ (b : Bool). cond b (changed (overlay (copy ∷ touched) cells q) put.name put.value) (overlay (copy ∷ touched) cells q)) (same_key_turned copy.0 q ∙ apart)
          ∙ over_rest copy touched cells q apart)
    ] refl

-- a put to a later copy, or to none
over_later : (p : Program) (copy : Key × CellMap) (touched after : Touched) (cells : Cells) (put : Put) (meant : Option Key)
    → ((key : Key) → meant ≡ Some key → is_named put.cell (class_of p key) ≡ true) → is_meant p put.cell copy ≡ false
    → overlay after cells ≡ put_under (overlay touched cells) put meant → overlay (copy ∷ after) cells ≡ put_under (overlay (copy ∷ touched) cells) put meant
over_later p copy touched after cells put None named other rest = λ i q.
    elim (same_key q copy.0) as (λ b. same_key q copy.0 ≡ b → overlay (copy ∷ after) cells q ≡ overlay (copy ∷ touched) cells q) [
      | true ↦ λ same. over_first copy after cells q same ∙ sym (over_first copy touched cells q same)
      | false ↦ λ apart. over_rest copy after cells q apart ∙ ap (λ (under : Cells). under q) rest ∙ sym (over_rest copy touched cells q apart)
    ] refl i
over_later p copy touched after cells put (Some key) named other rest = λ i q.
    elim (same_key q copy.0) as (λ b. same_key q copy.0 ≡ b → overlay (copy ∷ after) cells q ≡ put_under (overlay (copy ∷ touched) cells) put (Some key) q) [
      | true ↦ λ same.
          let apart : same_key key q ≡ false = key_cases {P = same_key key q ≡ false} key q
          (λ here _. absurd (false≢true (sym other ∙ ap (λ k. is_named put.cell (class_of p k)) (sym (here ∙ same_key_is q copy.0 same)) ∙ named key refl)))
          (λ e _. e) in
          over_first copy after cells q same ∙ sym (ap (λ (b : Bool). cond b (changed (overlay (copy ∷ touched) cells q) put.name put.value) (overlay (copy ∷ touched) cells q)) apart ∙ over_first copy touched cells q same)
      | false ↦ λ apart. over_rest copy after cells q apart ∙ ap (λ (under : Cells). under q) rest
          ∙ ap (λ cell. cond (same_key key q) (changed cell put.name put.value) cell) (sym (over_rest copy touched cells q apart))
    ] refl i

over_put : (p : Program) (touched : Touched) (cells : Cells) (put : Put)
    → overlay (with_put p touched put) cells ≡ put_under (overlay touched cells) put (key_named p (keys_in touched) put.cell)
over_put p [] cells put = refl
over_put p (copy ∷ touched) cells put =
    elim (is_meant p put.cell copy) as (λ b. is_meant p put.cell copy ≡ b
    → overlay (cond b (put_to put copy ∷ touched) (copy ∷ with_put p touched put)) cells ≡ put_under (overlay (copy ∷ touched) cells) put (cond b (Some copy.0) (key_named p (keys_in touched) put.cell))) [
      | true ↦ λ _ i q. over_here copy touched cells put q i
      | false ↦ λ other. over_later p copy touched (with_put p touched put) cells put (key_named p (keys_in touched) put.cell) (named_is p (keys_in touched) put.cell) other (over_put p touched cells put)
    ] refl

pub over_puts : (p : Program) (touched : Touched) (cells : Cells) (puts : List Put)
    → overlay (with_puts p touched puts) cells ≡ applied p (keys_in touched) (overlay touched cells) puts
over_puts p touched cells [] = refl
over_puts p touched cells (put ∷ puts) =
    over_puts p (with_put p touched put) cells puts
    ∙ ap (λ ks. applied p ks (overlay (with_put p touched put) cells) puts) (keys-with_put p touched put)
    ∙ ap (λ under. applied p (keys_in touched) under puts) (over_put p touched cells put)

-- the first copies are those of the cells
pub over_copies : (cells : Cells) (keys : List Key) → overlay (map (λ key. (key, cells key)) keys) cells ≡ cells
over_copies cells keys = λ i q. same keys q i where
  same : (ks : List Key) (q : Key) → unwrap_or (lookup (same_key q) (map (λ key. (key, cells key)) ks)) (cells q) ≡ cells q
  same [] q = refl
  same (k ∷ ks) q =
      elim (same_key q k) as (λ b. same_key q k ≡ b → unwrap_or (cond b (Some (cells k)) (lookup (same_key q) (map (λ key. (key, cells key)) ks))) (cells q) ≡ cells q) [
        | true ↦ λ e. ap cells (sym (same_key_is q k e))
        | false ↦ λ _. same ks q
      ] refl

pub keys_of_copies : (cells : Cells) (keys : List Key) → keys_in (map (λ key. (key, cells key)) keys) ≡ keys
keys_of_copies cells [] = refl
keys_of_copies cells (key ∷ keys) = ap (λ ks. key ∷ ks) (keys_of_copies cells keys)

-- one key's copy more
pub copies_more : (cells : Cells) (keys : List Key) (place : ℕ) (d : Key) (touched after : Touched) (copy : CellMap) → place < length keys
    → touched ≡ map (λ key. (key, cells key)) (take place keys) → copy ≡ cells (get_or keys place d)
    → after ≡ touched ++ (get_or keys place d, copy) ∷ [] → after ≡ map (λ key. (key, cells key)) (take (place + 1) keys)
copies_more cells keys place d touched after copy within so_far is next =
    next ∙ ap (λ c. touched ++ (get_or keys place d, c) ∷ []) is ∙ ap (λ t. t ++ (get_or keys place d, cells (get_or keys place d)) ∷ []) so_far
    ∙ sym (ap (map (λ key. (key, cells key))) (take_more keys place d within) ∙ map-append (λ key. (key, cells key)) (take place keys) (get_or keys place d ∷ []))
