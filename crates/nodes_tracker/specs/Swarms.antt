-- Swarms, as the cell `swarms` keeps them: a dictionary from peers to the number left of each.
use Rattle.std.specs.Prelude.{◌≡◌, ℕ, zero, suc, ◌^◌, ◌==◌, ◌&&◌, not, nat_le, nat_lt, if◌then◌else◌, Bool, true, false, ℤ, pos, negsuc, List, [], ◌∷◌, ◌++◌, length, take, drop, filter, Option, Some, None, codes}
use Rattle.std.specs.List.{list_all, before_first}
use Rattle.std.specs.Ordering.{nat_cmp, is_lt}
use Rattle.std.specs.Cmp.Lexicographic.{slice_cmp}
use Rattle.std.specs.Str.{bytes_eq}
use Rattle.std.specs.Str.Parse.{digits_value}
use Rattle.flux_values.specs.declared.values.Value.{Value}
use Rattle.flux_values.specs.declared.values.Value.TheVariants as values
use Rattle.bencoding.specs.Trees.{number, dictionary, Fields, no_fields, field, spelling, spelled_string}
use Rattle.nodes_tracker.specs.declared.peers.Peer.{Peer}
use Rattle.nodes_tracker.specs.declared.peers.TheConstants.{PEER_LIMIT}

-- ---- which swarms there are

-- a number left isn't negative, and has 64 bits
abbrev pub is_left : ℤ → Bool
is_left (pos n) = nat_lt n (2 ^ 63)
is_left (negsuc n) = false

abbrev pub are_bytes : List ℕ → Bool
are_bytes text = list_all (λ byte. nat_lt byte 256) text

-- a peer is six bytes with a number left
abbrev pub is_peer : Peer → Bool
is_peer peer = (length peer.address == 6 && are_bytes peer.address) && is_left peer.left

-- one text is below another, bytewise
abbrev pub is_below : List ℕ → List ℕ → Bool
is_below one other = is_lt (slice_cmp nat_cmp one other)

-- peers rise strictly
abbrev pub is_rising : List Peer → Bool
is_rising [] = true
is_rising (p ∷ []) = true
is_rising (p ∷ q ∷ peers) = is_below p.address q.address && is_rising (q ∷ peers)

-- a swarm has at most 1,000 peers, and they rise strictly
abbrev pub is_swarm : List Peer → Bool
is_swarm peers = nat_le (length peers) PEER_LIMIT && (list_all is_peer peers && is_rising peers)

-- ---- as it is kept

abbrev pub fields_of : List Peer → Fields
fields_of [] = no_fields
fields_of (p ∷ peers) = field p.address (number p.left) (fields_of peers)

-- the text that keeps a swarm
abbrev pub kept : List Peer → List ℕ
kept peers = spelling (dictionary (fields_of peers))

-- ---- as it is read

-- one peer of such a text
abbrev pub kept_peer : Peer → List ℕ
kept_peer peer = spelled_string peer.address ++ spelling (number peer.left)

-- the peer that is first, if there is one: after `6:` six bytes, and after `i` the digits up to
-- an `e`
abbrev pub first_peer : List ℕ → Peer
first_peer bytes = record {
  address = take 6 (drop 2 bytes);
  left = pos (digits_value 10 (before_first (λ b. b == 101) (drop 9 bytes)));
}

-- the peers that are one after another, up to an `e` that ends them
abbrev pub peers_in : ℕ → List ℕ → List Peer
peers_in zero bytes = []
peers_in (suc most) bytes = if bytes_eq bytes (codes "e") then [] else
    first_peer bytes ∷ peers_in most (drop (length (kept_peer (first_peer bytes))) bytes)

-- these peers, where they are a swarm and this is the text that keeps it; else none
abbrev pub where_kept : List ℕ → List Peer → List Peer
where_kept text peers = if is_swarm peers && bytes_eq text (kept peers) then peers else []

-- the swarm that a text keeps; a text that keeps none counts as empty
abbrev pub swarm_of_text : List ℕ → List Peer
swarm_of_text text = where_kept text (peers_in (length text) (drop 1 text))

-- the swarm of what the cell has; what is no text counts as empty
abbrev pub swarm_of : Option Value → List Peer
swarm_of (Some (values.Text text)) = swarm_of_text text
swarm_of (Some (values.Int other)) = []
swarm_of (Some (values.Bool truth)) = []
swarm_of None = []

-- ---- what changes

-- the peers other than one
abbrev pub without : List ℕ → List Peer → List Peer
without address peers = filter (λ p. not (bytes_eq p.address address)) peers

-- a peer at its place in bytewise order among others
abbrev pub with_peer : Peer → List Peer → List Peer
with_peer peer [] = peer ∷ []
with_peer peer (p ∷ peers) =
    if is_below p.address peer.address then p ∷ with_peer peer peers else peer ∷ p ∷ peers

-- ---- what reads back

-- a swarm that is kept reads back as it was
abbrev pub KeptReadsBack : Type 0
KeptReadsBack = (peers : List Peer) → is_swarm peers ≡ true → swarm_of_text (kept peers) ≡ peers

-- a text that keeps no swarm counts as empty
abbrev pub NothingElseReads : Type 0
NothingElseReads = (text : List ℕ)
    → ((peers : List Peer) → is_swarm peers ≡ true → text ≡ kept peers → ⊥)
    → swarm_of_text text ≡ []
