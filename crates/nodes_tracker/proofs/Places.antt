-- Peers one by one: as they are read, kept, put in and joined.
use Rattle.std.proofs.Common.{◌≡◌, ℕ, suc, ◌+◌, ◌<◌, ◌^◌, Bool, true, false, cond, int_lt, ℤ, pos, negsuc, List, [], ◌∷◌, ◌++◌, length, get_or, drop, map, Option, Some, None, FitsSigned, refl, sym, ap, ◌∙◌, arith, append_assoc}
use Rattle.std.specs.Int.{w64}
use Rattle.std.specs.List.{insert, prefix_len, concat}
use Rattle.std.proofs.lemmas.Bool.Decides.{nat_tests}
use Rattle.std.proofs.lemmas.Int.{ints}
use Rattle.std.proofs.lemmas.List.{at_drop_more}
use Rattle.bencoding.specs.Trees.{field, number}
use Rattle.bencoding.specs.Views.{tree_of}
use Rattle.bencoding.specs.declared.values.Field.{Field}
use Rattle.bencoding.specs.declared.values.Ben.{Ben, Int}
use Rattle.bencoding.specs.steps.Printed.{fields_view}
use Rattle.nodes_tracker.specs.declared.asks.Ask.{Ask}
use Rattle.nodes_tracker.specs.declared.peers.Peer.{Peer}
use Rattle.nodes_tracker.specs.Swarms.{is_left, is_below, with_peer, fields_of}
use Rattle.nodes_tracker.specs.Calls.{stops, asking, moved}
use Rattle.nodes_tracker.specs.steps.Fields.{tree_peer, peer_before, tree_peers, IsSmall, AreFew}
use Rattle.nodes_tracker.specs.laws.Members.{AreKept, few_with}
use Rattle.nodes_tracker.proofs.Trees.{view_int, behind_peers}

-- ---- read

nothing_yet : (found : Option (List Peer)) → behind_peers [] found ≡ found
nothing_yet (Some more) = refl
nothing_yet None = refl

pub read_begun : (fields : List (Field Ben))
    → behind_peers [] (tree_peers (fields_view fields)) ≡ tree_peers (fields_view fields)
read_begun fields = nothing_yet (tree_peers (fields_view fields))

one_read : (ps : List Peer) (p : Peer) (found : Option (List Peer))
    → behind_peers ps (peer_before (Some p) found) ≡ behind_peers (ps ++ p ∷ []) found
one_read ps p (Some more) = ap Some (sym (append_assoc ps (p ∷ []) more))
one_read ps p None = refl

pub read_more : (fields : List (Field Ben)) (ps : List Peer) (k : ℕ) (f : Field Ben) (p : Peer)
    → behind_peers ps (tree_peers (fields_view (drop k fields))) ≡ tree_peers (fields_view fields)
    → (k < length fields) × (f ≡ get_or fields k f) → Some p ≡ tree_peer f.key (tree_of f.value)
    → behind_peers (ps ++ p ∷ []) (tree_peers (fields_view (drop (k + 1) fields))) ≡ tree_peers (fields_view fields)
read_more fields ps k f p so at is =
    let rest = tree_peers (fields_view (drop (k + 1) fields)) in
    sym (at_drop_more (λ fs. behind_peers ps (tree_peers (fields_view fs))) fields k f at.0
    ∙ ap (λ (g : Field Ben). behind_peers ps (peer_before (tree_peer g.key (tree_of g.value)) rest)) (sym at.1)
    ∙ ap (λ o. behind_peers ps (peer_before o rest)) (sym is) ∙ one_read ps p rest) ∙ so

none_before : (ps : List Peer) (found : Option (List Peer)) → behind_peers ps (peer_before None found) ≡ None
none_before ps found = refl

pub read_none : (fields : List (Field Ben)) (ps : List Peer) (k : ℕ) (f : Field Ben)
    → behind_peers ps (tree_peers (fields_view (drop k fields))) ≡ tree_peers (fields_view fields)
    → (k < length fields) × (f ≡ get_or fields k f) → None ≡ tree_peer f.key (tree_of f.value)
    → None ≡ tree_peers (fields_view fields)
read_none fields ps k f so at is =
    let rest = tree_peers (fields_view (drop (k + 1) fields)) in
    sym (at_drop_more (λ fs. behind_peers ps (tree_peers (fields_view fs))) fields k f at.0
    ∙ ap (λ (g : Field Ben). behind_peers ps (peer_before (tree_peer g.key (tree_of g.value)) rest)) (sym at.1)
    ∙ ap (λ o. behind_peers ps (peer_before o rest)) (sym is) ∙ none_before ps rest) ∙ so

-- ---- kept

-- the field of a peer
abbrev pub kept_field : Peer → Field Ben
kept_field p = record { key = p.address; value = Int p.left }

pub kept_view : (ps : List Peer) → fields_view (map kept_field ps) ≡ fields_of ps
kept_view [] = refl
kept_view (p ∷ ps) = ap (λ t. field p.address t (fields_view (map kept_field ps))) (view_int p.left)
    ∙ ap (field p.address (number p.left)) (kept_view ps)

-- ---- put in

pub put_at : (p : Peer) (ps : List Peer)
    → with_peer p ps ≡ insert ps (prefix_len (λ q. is_below q.address p.address) ps) p
put_at p [] = refl
put_at p (q ∷ ps) = one (is_below q.address p.address) (put_at p ps)
  where
    n : ℕ
    n = prefix_len (λ r. is_below r.address p.address) ps

    one : (b : Bool) → with_peer p ps ≡ insert ps n p
        → cond b (q ∷ with_peer p ps) (p ∷ q ∷ ps) ≡ insert (q ∷ ps) (cond b (1 + n) 0) p
    one true e = let more : suc n ≡ 1 + n = omega arith in ap (λ l. q ∷ l) e ∙ ap (λ m. insert (q ∷ ps) m p) more
    one false e = refl

-- ---- joined

pub join_more : (ps : List Peer) (k : ℕ) (p : Peer) (done whole : List ℕ) → done
    ++ concat (map (λ q. q.address) (drop k ps)) ≡ whole → k < length ps → p ≡ get_or ps k p
    → (done ++ p.address) ++ concat (map (λ q. q.address) (drop (k + 1) ps)) ≡ whole
join_more ps k p done whole so lt at =
    let rest = concat (map (λ (q : Peer). q.address) (drop (k + 1) ps)) in
    append_assoc done p.address rest
    ∙ ap (λ (q : Peer). done ++ (q.address ++ rest)) at
    ∙ sym (at_drop_more (λ (qs : List Peer). done ++ concat (map (λ q. q.address) qs)) ps k p lt) ∙ so

-- ---- few

pub are_few : (ps : List Peer) → AreKept ps → AreFew ps
are_few ps kept = record { few = kept.few; each = kept.small }

pub left_is : (z : ℤ) → FitsSigned w64 z → int_lt z (pos 0) ≡ false → is_left z ≡ true
left_is (pos n) fits e = let lt : n < 2 ^ 63 = omega (arith, ints) in grind (arith, nat_tests)
left_is (negsuc n) fits e = absurd cc

pub moved_few : (ask : Ask) (ps : List Peer) → AreFew ps → IsSmall (asking ask)
    → (stops ask.action ≡ false → length ps < 1000) → AreFew (moved ask.action (asking ask) ps)
moved_few ask ps few own lt = one (stops ask.action) refl
  where
    one : (b : Bool) → stops ask.action ≡ b → AreFew (cond b ps (with_peer (asking ask) ps))
    one true e = few
    one false e = few_with (asking ask) ps own few (lt e)
