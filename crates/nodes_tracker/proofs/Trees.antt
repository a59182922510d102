-- The fields of a dictionary, and the peers of a swarm.
use Rattle.std.proofs.Common.{◌≡◌, inl, inr, ℕ, ◌<◌, ◌≤◌, ◌&&◌, Bool, true, false, cond, eqb, leb, ltb, ℤ, List, [], ◌∷◌, ◌++◌, length, Option, Some, None, Vec, Global, refl, sym, ap, ◌∙◌, subst, arith, rules, length-append, append-nil}
use Rattle.std.specs.List.{AllByRecursion, list_all}
use Rattle.std.proofs.lemmas.Bool.Decides.{nat_tests}
use Rattle.std.proofs.lemmas.List.Sums.{AllPass-from_list_all, list_all-from_AllPass}
use Rattle.bencoding.specs.Trees.{Tree, number, string, items, dictionary, Fields, no_fields, field, spelling, IsString, IsAbove, IsKey, IsTree, AreFields}
use Rattle.bencoding.specs.Views.{tree_of}
use Rattle.bencoding.specs.Reading.{BeginsWith}
use Rattle.bencoding.specs.declared.values.Field.{Field}
use Rattle.bencoding.specs.declared.values.Ben.{Ben, Int, Text, Items, Dict, the_lemmas}
use Rattle.bencoding.specs.steps.Printed.{items_view, fields_view}
use Rattle.nodes_tracker.specs.declared.peers.Peer.{Peer}
use Rattle.nodes_tracker.specs.Swarms.{is_left, are_bytes, is_peer, is_below, is_rising, is_swarm, fields_of, swarm_of_text}
use Rattle.nodes_tracker.specs.steps.Fields.{peer_before, tree_peers, IsDictionary, AreFieldsRead, AreFieldsOf, IsSmall}
use Rattle.nodes_tracker.specs.laws.Swarms.{and_left, and_right, six_bytes, left_small, bytes_small, few_peers, all_peers, in_order, reads_back, nothing_else}
use Rattle.nodes_tracker.specs.laws.Sizes.{left_fits}

-- ---- what is seen of values

pub view_int : (z : ℤ) → tree_of (Int z) ≡ number z
view_int z = search (rules, the_lemmas)

pub view_text : (t : List ℕ) → tree_of (Text t) ≡ string t
view_text t = search (rules, the_lemmas)

pub view_items : (v : Vec Ben Global) → tree_of (Items v) ≡ items (items_view v.items)
view_items v = search (rules, the_lemmas)

pub view_fields : (v : Vec (Field Ben) Global) → tree_of (Dict v) ≡ dictionary (fields_view v.items)
view_fields v = search (rules, the_lemmas)

-- ---- one key above another

above : (xs ys : List ℕ) → is_below xs ys ≡ true → IsAbove xs ys
above [] [] e = absurd cc
above [] (b ∷ ys) e = tt
above (a ∷ xs) [] e = absurd cc
above (a ∷ xs) (b ∷ ys) e = one (ltb a b) refl (eqb a b) refl (above xs ys)
  where
    one : (t : Bool) → ltb a b ≡ t → (u : Bool) → eqb a b ≡ u → (is_below xs ys ≡ true → IsAbove xs ys)
        → IsAbove (a ∷ xs) (b ∷ ys)
    one true p u q more = inl (grind (arith, nat_tests))
    one false p true q more = inr (grind (arith, nat_tests), more (rw (p, q) at e))
    one false p false q more = absurd (let f = rw (p, q) at e in cc)

below : (xs ys : List ℕ) → IsAbove xs ys → is_below xs ys ≡ true
below [] [] h = absurd h
below [] (b ∷ ys) h = refl
below (a ∷ xs) [] h = absurd h
below (a ∷ xs) (b ∷ ys) (inl lt) = let t : ltb a b ≡ true = grind (arith, nat_tests) in rw t refl
below (a ∷ xs) (b ∷ ys) (inr h) =
    let t : ltb a b ≡ false = (let same = h.0 in grind (arith, nat_tests)) in
    let u : eqb a b ≡ true = (let same = h.0 in grind (arith, nat_tests)) in
    rw (t, u) (below xs ys h.1)

-- ---- from fields to peers

record AreOf (fs : Fields) (ps : List Peer) : Type 0 where
  is : fs ≡ fields_of ps
  small : AllByRecursion IsSmall ps

before_of : (key : List ℕ) (z : ℤ) (fs : Fields) (ps : List Peer) (b : Bool) → (eqb (length key) 6 && is_left z) ≡ b
    → (found : Option (List Peer)) → ((qs : List Peer) → found ≡ Some qs → AreOf fs qs)
    → peer_before (cond b (Some (record { address = key; left = z })) None) found ≡ Some ps
    → AreOf (field key (number z) fs) ps
before_of key z fs ps true p (Some qs) more e =
    let same : record { address = key; left = z } ∷ qs ≡ ps = cc in
    let six : length key ≡ 6 = (let t = and_left (eqb (length key) 6) (is_left z) p in grind (arith, nat_tests)) in
    let rest = more qs refl in
    subst (AreOf (field key (number z) fs)) same
    (record {
      is = ap (field key (number z)) rest.is;
      small = (record { six = six; left_ = and_right (eqb (length key) 6) (is_left z) p }, rest.small);
    })
before_of key z fs ps true p None more e = absurd cc
before_of key z fs ps false p found more e = absurd cc

none_before : (found : Option (List Peer)) (ps : List Peer) → peer_before None found ≡ Some ps → ⊥
none_before found ps e = cc

are_of : (fs : Fields) (ps : List Peer) → tree_peers fs ≡ Some ps → AreOf fs ps
are_of no_fields ps e =
    let same : ◌≡◌ {A = List Peer} [] ps = cc in subst (AreOf no_fields) same (record { is = refl; small = tt })
are_of (field key (number z) fs) ps e =
    before_of key z fs ps (eqb (length key) 6 && is_left z) refl (tree_peers fs) (are_of fs) e
are_of (field key (string t) fs) ps e = absurd (none_before (tree_peers fs) ps e)
are_of (field key (items ts) fs) ps e = absurd (none_before (tree_peers fs) ps e)
are_of (field key (dictionary gs) fs) ps e = absurd (none_before (tree_peers fs) ps e)

peers_back : (ps : List Peer) → list_all is_peer ps ≡ true → tree_peers (fields_of ps) ≡ Some ps
peers_back [] all = refl
peers_back (p ∷ ps) all =
    let is = and_left (is_peer p) (list_all is_peer ps) all in
    let six : eqb (length p.address) 6 ≡ true = (let e = six_bytes p is in grind (arith, nat_tests)) in
    rw (six, left_small p is, peers_back ps (and_right (is_peer p) (list_all is_peer ps) all)) refl

-- ---- which dictionaries keep swarms

string_of : (before : Option (List ℕ)) (key : List ℕ) → IsKey before key → IsString key
string_of None key is = is
string_of (Some b) key is = is.0

peer_is : (p : Peer) → IsSmall p → IsString p.address → is_peer p ≡ true
peer_is p small is =
    let six : eqb (length p.address) 6 ≡ true = (let e = small.six in grind (arith, nat_tests)) in
    let bytes : are_bytes p.address ≡ true =
    list_all-from_AllPass (λ b. ltb b 256) p.address (λ k d lt. let h = is.0 k d lt in grind (arith, nat_tests)) in
    rw (six, bytes, small.left_) refl

record AreSwarm (ps : List Peer) : Type 0 where
  peers : list_all is_peer ps ≡ true
  rising : is_rising ps ≡ true

swarm_of_tree : (ps : List Peer) (before : Option (List ℕ)) → AllByRecursion IsSmall ps
    → AreFields 7 before (fields_of ps) → AreSwarm ps
swarm_of_tree [] before small are = record { peers = refl; rising = refl }
swarm_of_tree (p ∷ []) before small are =
    record { peers = rw (peer_is p small.0 (string_of before p.address are.0)) refl; rising = refl }
swarm_of_tree (p ∷ q ∷ ps) before small are =
    let more = swarm_of_tree (q ∷ ps) (Some p.address) small.1 are.2 in
    record {
      peers = rw (peer_is p small.0 (string_of before p.address are.0)) more.peers;
      rising = rw (below p.address q.address are.2.0.1) more.rising;
    }

abbrev IsFirst : Option (List ℕ) → List Peer → Type 0
IsFirst None ps = Unit {0}
IsFirst (Some b) [] = Unit {0}
IsFirst (Some b) (p ∷ ps) = IsAbove b p.address

next_first : (p : Peer) (ps : List Peer) → is_rising (p ∷ ps) ≡ true → IsFirst (Some p.address) ps
next_first p [] e = tt
next_first p (q ∷ ps) e = above p.address q.address (and_left (is_below p.address q.address) (is_rising (q ∷ ps)) e)

next_rising : (p : Peer) (ps : List Peer) → is_rising (p ∷ ps) ≡ true → is_rising ps ≡ true
next_rising p [] e = refl
next_rising p (q ∷ ps) e = and_right (is_below p.address q.address) (is_rising (q ∷ ps)) e

string_is : (p : Peer) → is_peer p ≡ true → IsString p.address
string_is p is =
    let all = AllPass-from_list_all (λ b. ltb b 256) p.address (bytes_small p is) in
    let six = six_bytes p is in
    (λ k d lt. let h = all k d lt in grind (arith, nat_tests), omega (arith, six))

key_is : (before : Option (List ℕ)) (p : Peer) (ps : List Peer) → is_peer p ≡ true → IsFirst before (p ∷ ps)
    → IsKey before p.address
key_is None p ps is first = string_is p is
key_is (Some b) p ps is first = (string_is p is, first)

tree_of_swarm : (ps : List Peer) (before : Option (List ℕ)) → list_all is_peer ps ≡ true → is_rising ps ≡ true
    → IsFirst before ps → AreFields 7 before (fields_of ps)
tree_of_swarm [] before all rising first = tt
tree_of_swarm (p ∷ ps) before all rising first =
    let is = and_left (is_peer p) (list_all is_peer ps) all in (
      key_is before p ps is first,
      left_fits p.left (left_small p is),
      tree_of_swarm ps (Some p.address) (and_right (is_peer p) (list_all is_peer ps) all) (next_rising p ps rising)
          (next_first p ps rising),
    )

tree_is : (ps : List Peer) → is_swarm ps ≡ true → IsTree 8 (dictionary (fields_of ps))
tree_is ps is = (omega arith, tree_of_swarm ps None (all_peers ps is) (in_order ps is) tt)

-- ---- the swarm of a text

pub swarm_found : (text : List ℕ) (fs : Fields) (ps : List Peer) → IsDictionary text fs → Some ps ≡ tree_peers fs
    → length ps ≤ 1000 → ps ≡ swarm_of_text text
swarm_found text fs ps dict e le =
    let are = are_of fs ps (sym e) in
    let of_tree = swarm_of_tree ps None are.small (subst (AreFields 7 None) are.is dict.is_tree.1) in
    let few : leb (length ps) 1000 ≡ true = grind (arith, nat_tests) in
    let is : is_swarm ps ≡ true = rw (few, of_tree.peers, of_tree.rising) refl in
    sym (ap swarm_of_text (dict.spelled ∙ ap (λ gs. spelling (dictionary gs)) are.is) ∙ reads_back ps is)

pub swarm_none : (text : List ℕ) (fs : Fields) → IsDictionary text fs
    → ((ps : List Peer) → Some ps ≡ tree_peers fs → length ps ≤ 1000 → ⊥) → [] ≡ swarm_of_text text
swarm_none text fs dict none =
    sym (nothing_else text (λ ps is e. none ps (sym (peers_back ps (all_peers ps is))
    ∙ ap tree_peers (dict.alone (fields_of ps) (tree_is ps is) e)) (few_peers ps is)))

-- its fields aren't all peers
pub swarm_other : (text : List ℕ) (fs : Fields) → IsDictionary text fs → None ≡ tree_peers fs → [] ≡ swarm_of_text text
swarm_other text fs dict none = swarm_none text fs dict (λ ps e le. let no : Some ps ≡ None = e ∙ sym none in cc)

-- they are too many
pub swarm_full : (text : List ℕ) (fs : Fields) (qs : List Peer) → IsDictionary text fs → Some qs ≡ tree_peers fs
    → 1000 < length qs → [] ≡ swarm_of_text text
swarm_full text fs qs dict some lt =
    swarm_none text fs dict (λ ps e le.
    let same : Some ps ≡ Some qs = e ∙ sym some in
    let is : ps ≡ qs = cc in
    omega (arith, lt, le, ap length is))

pub no_dictionary : (text : List ℕ) → AreFieldsRead text None → [] ≡ swarm_of_text text
no_dictionary text none = sym (nothing_else text (λ ps is e. none (fields_of ps) (tree_is ps is) e))

-- ---- the fields of a text

rest_none : (front rest : List ℕ) → length (front ++ rest) ≡ length front → rest ≡ []
rest_none front [] e = refl
rest_none front (b ∷ rest) e = absurd (omega (arith, e, length-append front (b ∷ rest)))

to_the_end : (text : List ℕ) (t : Tree) (n : ℕ) → BeginsWith 8 text t n → n ≡ length text → text ≡ spelling t
to_the_end text t n begins long =
    let none = rest_none (spelling t) begins.rest (ap length (sym begins.front) ∙ sym long ∙ begins.long) in
    begins.front ∙ ap (λ r. spelling t ++ r) none ∙ append-nil (spelling t)

pub stands_alone : (text : List ℕ) (fs : Fields) → IsTree 8 (dictionary fs) → text ≡ spelling (dictionary fs)
    → BeginsWith 8 text (dictionary fs) (length text)
stands_alone text fs is e =
    record { is_tree = is; rest = []; front = e ∙ sym (append-nil (spelling (dictionary fs))); long = ap length e }

-- what was read of a text, to its end
pub fields_whole : (text : List ℕ) (value : Ben) (n : ℕ) (found : Option (Vec (Field Ben) Global))
    → BeginsWith 8 text (tree_of value) n
    → ((t : Tree) (m : ℕ) → BeginsWith 8 text t m → (tree_of value ≡ t) × (n ≡ m)) → n ≡ length text
    → AreFieldsOf (tree_of value) found → AreFieldsRead text found
fields_whole text value n (Some fields) begins only long are = record {
  is_tree = subst (IsTree 8) are begins.is_tree;
  spelled = to_the_end text (tree_of value) n begins long ∙ ap spelling are;
  alone = λ other is e.
      let same : dictionary (fields_view fields.items) ≡ dictionary other = sym are
      ∙ (only (dictionary other) (length text) (stands_alone text other is e)).0 in
      cc;
}
fields_whole text value n None begins only long are =
    λ other is e. are other ((only (dictionary other) (length text) (stands_alone text other is e)).0)

-- it ended before the text did
pub fields_short : (text : List ℕ) (value : Ben) (n : ℕ)
    → ((t : Tree) (m : ℕ) → BeginsWith 8 text t m → (tree_of value ≡ t) × (n ≡ m)) → (n ≡ length text → ⊥)
    → AreFieldsRead text None
fields_short text value n only other fs is e =
    other ((only (dictionary fs) (length text) (stands_alone text fs is e)).1)

-- ---- peers as they are read and kept, one more

abbrev pub behind_peers : List Peer → Option (List Peer) → Option (List Peer)
behind_peers ps (Some more) = Some (ps ++ more)
behind_peers ps None = None
