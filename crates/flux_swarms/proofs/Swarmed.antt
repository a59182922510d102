-- What is in the cell after a call of `Swarm`.
use Rattle.std.proofs.Common.{◌≡◌, ◌<◌, ◌≤◌, ◌^◌, ℕ, ℤ, pos, negsuc, Bool, true, false, ◌&&◌, ◌||◌, cond, not, eqb, leb, int_lt, List, [], ◌∷◌, length, codes, Option, Some, None, FitsSigned, refl, sym, ap, ◌∙◌, arith}
use Rattle.std.specs.Int.{w64}
use Rattle.std.specs.FinMap.{get, get-insert, get-remove}
use Rattle.std.specs.List.{list_all}
use Rattle.std.specs.Str.{bytes_eq}
use Rattle.std.proofs.lemmas.Bool.Decides.{nat_tests}
use Rattle.std.proofs.lemmas.Cmp.{nat_list_cmp_total}
use Rattle.std.proofs.lemmas.Int.{ints}
use Rattle.std.proofs.lemmas.Map.Text.{is_eq-slice_cmp}
use Rattle.std.proofs.lemmas.Slice.Eq.{bytes_eq-Decides}
use Rattle.flux_values.specs.Cells.{CellMap, changed}
use Rattle.flux_values.specs.declared.values.Value.{Value}
use Rattle.flux_values.specs.declared.values.Value.TheVariants.{Text, Int}
use Rattle.flux_values.specs.declared.answers.Answer.{Answer}
use Rattle.flux_values.specs.declared.answers.CallResult.{CallResult}
use Rattle.flux_values.specs.declared.answers.Put.{Put}
use Rattle.flux_library.specs.Answers.{fails}
use Rattle.nodes_tracker.specs.declared.asks.Ask.{Ask}
use Rattle.nodes_tracker.specs.declared.peers.Peer.{Peer}
use Rattle.nodes_tracker.specs.Swarms.{is_left, is_peer, is_below, is_rising, is_swarm, kept, swarm_of, without, with_peer}
use Rattle.nodes_tracker.specs.Replies.{joined}
use Rattle.nodes_tracker.specs.Calls.{swarm_name, completions_name, swarm_in, completions_in, stops, asking, moved, put, swarm_put, one_more, completion_puts, moved_call, announce_call, swarm_call}
use Rattle.nodes_tracker.specs.laws.Swarms.{and_left, and_right, in_order, reads_back}
use Rattle.nodes_tracker.specs.laws.Members.{kept_few, kept_without, with_one_more}
use Rattle.nodes_tracker.specs.laws.Bytes.{text_bytes}
use Rattle.nodes_tracker.specs.laws.Asks.{IsAsk}
use Rattle.flux_swarms.specs.Asked.{is_good, of_hash}
use Rattle.flux_swarms.specs.steps.Moves.{moved_by, moved_on}
use Rattle.flux_swarms.proofs.Rising.{rises, rising}
use Rattle.flux_swarms.proofs.Moves.{rises_moved}

-- ---- a cell with puts

abbrev pub changed_by : CellMap → List Put → CellMap
changed_by cell [] = cell
changed_by cell (put ∷ puts) = changed_by (changed cell put.name put.value) puts

get_changed : (cell : CellMap) (name other : List ℕ) (value : Option Value)
    → get (changed cell name value) other ≡ cond (bytes_eq other name) value (get cell other)
get_changed cell name other None = get-remove nat_list_cmp_total cell name other
    ∙ ap (λ (b : Bool). cond b None (get cell other)) (is_eq-slice_cmp other name)
get_changed cell name other (Some value) = get-insert nat_list_cmp_total cell name value other
    ∙ ap (λ (b : Bool). cond b (Some value) (get cell other)) (is_eq-slice_cmp other name)

-- ---- which swarm there is

-- the cell has this swarm of a hash
pub record Has (cell : CellMap) (hash : List ℕ) (swarm : List Peer) : Type 0 where
  pub is : swarm_in cell hash ≡ swarm
  pub valid : is_swarm swarm ≡ true

-- what the name of a swarm has
abbrev value_of : List Peer → Option Value
value_of [] = None
value_of (p ∷ ps) = Some (Text (kept (p ∷ ps)))

one_put : (hash : List ℕ) (swarm : List Peer) → swarm_put hash swarm ≡ put (swarm_name hash) (value_of swarm)
one_put hash [] = refl
one_put hash (p ∷ ps) = refl

value_read : (swarm : List Peer) → is_swarm swarm ≡ true → swarm_of (value_of swarm) ≡ swarm
value_read [] valid = refl
value_read (p ∷ ps) valid = reads_back (p ∷ ps) valid

-- completions are under another name
past_completions : (action other hash : List ℕ) (completions : ℤ) (cell : CellMap)
    → swarm_in (changed_by cell (completion_puts action other completions)) hash ≡ swarm_in cell hash
past_completions action other hash completions cell = by (bytes_eq action (codes "completed"))
  where
    value : Option Value
    value = Some (Int (one_more completions))

    by : (b : Bool) → swarm_in (changed_by cell (cond b (put (completions_name other) value ∷ []) [])) hash
        ≡ swarm_in cell hash
    by true = ap swarm_of (get_changed cell (completions_name other) (swarm_name hash) value)
    by false = refl

-- ---- a swarm that is moved

pub or_left : (a b : Bool) → (a || b) ≡ false → a ≡ false
or_left true b e = e
or_left false b e = refl

pub or_right : (a b : Bool) → (a || b) ≡ false → b ≡ false
or_right true b e = absurd cc
or_right false b e = e

left_is : (z : ℤ) → FitsSigned w64 z → int_lt z (pos 0) ≡ false → is_left z ≡ true
left_is (pos n) fits e = let lt : n < 2 ^ 63 = omega (arith, ints) in grind (arith, nat_tests)
left_is (negsuc n) fits e = absurd cc

all_with_peer : (peer : Peer) (ps : List Peer) → is_peer peer ≡ true → list_all is_peer ps ≡ true
    → list_all is_peer (with_peer peer ps) ≡ true
all_with_peer peer [] own all = rw own refl
all_with_peer peer (p ∷ ps) own all = by (is_below p.address peer.address)
    (all_with_peer peer ps own (and_right (is_peer p) (list_all is_peer ps) all))
  where
    by : (b : Bool) → list_all is_peer (with_peer peer ps) ≡ true
        → list_all is_peer (cond b (p ∷ with_peer peer ps) (peer ∷ p ∷ ps)) ≡ true
    by true more = rw (and_left (is_peer p) (list_all is_peer ps) all) more
    by false more = rw own all

swarm_parts : (ps : List Peer) → length ps ≤ 1000 → list_all is_peer ps ≡ true → is_rising ps ≡ true
    → is_swarm ps ≡ true
swarm_parts ps few all rising_ =
    let le : leb (length ps) 1000 ≡ true = grind (arith, nat_tests) in rw (le, all, rising_) refl

module _ (ask : Ask) (valid : IsAsk ask) (six : eqb (length ask.peer) 6 ≡ true)
    (counted : int_lt ask.left (pos 0) ≡ false) (swarm : List Peer) (is : is_swarm swarm ≡ true)
    (room : (not (stops ask.action) && leb 1000 (length (without ask.peer swarm))) ≡ false) where
  others : List Peer
  others = without ask.peer swarm

  asking_is : is_peer (asking ask) ≡ true
  asking_is = rw (six, text_bytes ask.peer valid.peer_, left_is ask.left valid.left_ counted) refl

  moved_few : (b : Bool) → (not b && leb 1000 (length (without ask.peer swarm))) ≡ false
      → (length (cond b (without ask.peer swarm) (with_peer (asking ask) (without ask.peer swarm))) ≤ 1000)
      × (list_all is_peer (cond b (without ask.peer swarm) (with_peer (asking ask) (without ask.peer swarm))) ≡ true)
  moved_few true e =
      let rest = kept_without ask.peer swarm (kept_few swarm is) in (rest.few, rest.peers)
  moved_few false e =
      let rest = kept_without ask.peer swarm (kept_few swarm is) in
      let lt : length (without ask.peer swarm) < 1000 = grind (arith, nat_tests) in (
        let more = with_one_more (asking ask) (without ask.peer swarm) in omega (arith, more, lt),
        all_with_peer (asking ask) (without ask.peer swarm) asking_is rest.peers,
      )

  pub moved_is : is_swarm (moved_by ask swarm) ≡ true
  moved_is =
      let parts = moved_few (stops ask.action) room in
      swarm_parts (moved_by ask swarm) parts.0 parts.1
      (rising (moved_by ask swarm) (rises_moved ask swarm (rises swarm (in_order swarm is))))

-- ---- a call

-- what was asked, where the call was good
abbrev pub answered : Ask → CallResult → Option Ask
answered ask result = cond (is_good result) (Some ask) None

-- after an answer the cell has the swarm as the ask moves it
abbrev pub Leads : Ask → CellMap → List ℕ → List Peer → Answer → Type 0
Leads ask cell hash swarm answer =
    Has (changed_by cell answer.puts) hash (moved_on swarm (of_hash hash (answered ask answer.result)))

module _ (ask : Ask) (valid : IsAsk ask) (cell : CellMap) (hash : List ℕ) (swarm : List Peer)
    (has : Has cell hash swarm) where
  -- a call that moves the swarm
  moves : eqb (length ask.peer) 6 ≡ true → int_lt ask.left (pos 0) ≡ false
      → (not (stops ask.action) && leb 1000 (length (without ask.peer (swarm_in cell ask.hash)))) ≡ false
      → let others_ = without ask.peer (swarm_in cell ask.hash) in
      Leads ask cell hash swarm (moved_call ask cell (moved ask.action (asking ask) others_) (joined others_))
  moves six counted room = by (bytes_eq ask.hash hash) refl
    where
      new : List Peer
      new = moved_by ask (swarm_in cell ask.hash)

      put_in : CellMap
      put_in = changed cell (swarm_name ask.hash) (value_of new)

      after : CellMap
      after = changed_by cell (swarm_put ask.hash new
          ∷ completion_puts ask.action ask.hash (completions_in cell ask.hash))

      as_put : swarm_in after hash
          ≡ swarm_of (cond (bytes_eq (swarm_name hash) (swarm_name ask.hash)) (value_of new)
          (get cell (swarm_name hash)))
      as_put =
          ap (λ (p : Put). swarm_in (changed_by (changed cell p.name p.value)
          (completion_puts ask.action ask.hash (completions_in cell ask.hash))) hash) (one_put ask.hash new)
          ∙ past_completions ask.action ask.hash hash (completions_in cell ask.hash) put_in
          ∙ ap swarm_of (get_changed cell (swarm_name ask.hash) (swarm_name hash) (value_of new))

      by : (b : Bool) → bytes_eq ask.hash hash ≡ b → Has after hash (moved_on swarm (cond b (ask ∷ []) []))
      by true e =
          let same = (bytes_eq-Decides ask.hash hash).0 e in
          let test : bytes_eq (swarm_name hash) (swarm_name ask.hash) ≡ true =
          (bytes_eq-Decides (swarm_name hash) (swarm_name ask.hash)).1 (ap swarm_name (sym same)) in
          let held : swarm_in cell ask.hash ≡ swarm = ap (swarm_in cell) same ∙ has.is in
          let fits : is_swarm new ≡ true = moved_is ask valid six counted (swarm_in cell ask.hash)
          (ap is_swarm held ∙ has.valid) room in
          let now : new ≡ moved_by ask swarm = ap (moved_by ask) held in
          record {
            is = as_put ∙ ap (λ (b : Bool). swarm_of (cond b (value_of new) (get cell (swarm_name hash)))) test
                ∙ value_read new fits ∙ now;
            valid = ap is_swarm (sym now) ∙ fits;
          }
      by false e =
          let test : bytes_eq (swarm_name hash) (swarm_name ask.hash) ≡ false =
          apart (bytes_eq hash ask.hash) refl in
          record {
            is = as_put ∙ ap (λ (b : Bool). swarm_of (cond b (value_of new) (get cell (swarm_name hash)))) test
                ∙ has.is;
            valid = has.valid;
          }
        where
          apart : (b : Bool) → bytes_eq hash ask.hash ≡ b → bytes_eq (swarm_name hash) (swarm_name ask.hash) ≡ false
          apart false f = f
          apart true f = let no : true ≡ false = sym ((bytes_eq-Decides ask.hash hash).1
              (sym ((bytes_eq-Decides hash ask.hash).0 f))) ∙ e in absurd cc

  pub call_leads : Leads ask cell hash swarm (swarm_call ask cell)
  call_leads = by (not (eqb (length ask.hash) 20)
      || (not (eqb (length ask.peer) 6) || int_lt ask.left (pos 0))) refl
    where
      others_ : List Peer
      others_ = without ask.peer (swarm_in cell ask.hash)

      straight : (b : Bool) → not b ≡ false → b ≡ true
      straight true e = refl
      straight false e = absurd cc

      on : eqb (length ask.peer) 6 ≡ true → int_lt ask.left (pos 0) ≡ false
          → (b : Bool) → (not (stops ask.action) && leb 1000 (length others_)) ≡ b
          → Leads ask cell hash swarm (cond b (fails 3)
          (moved_call ask cell (moved ask.action (asking ask) others_) (joined others_)))
      on six counted true e = has
      on six counted false e = moves six counted e

      by : (b : Bool) → (not (eqb (length ask.hash) 20)
          || (not (eqb (length ask.peer) 6) || int_lt ask.left (pos 0))) ≡ b
          → Leads ask cell hash swarm (cond b (fails 4) (announce_call ask cell others_))
      by true e = has
      by false e =
          let two = or_right (not (eqb (length ask.hash) 20))
          (not (eqb (length ask.peer) 6) || int_lt ask.left (pos 0)) e in
          on (straight (eqb (length ask.peer) 6)
          (or_left (not (eqb (length ask.peer) 6)) (int_lt ask.left (pos 0)) two))
          (or_right (not (eqb (length ask.peer) 6)) (int_lt ask.left (pos 0)) two)
          (not (stops ask.action) && leb 1000 (length others_)) refl
