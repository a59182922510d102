-- Steps between the fields of a dictionary and the peers of a swarm.
use Rattle.std.specs.Prelude.{◌≡◌, ◌≤◌, ℕ, ◌==◌, ◌&&◌, if◌then◌else◌, true, ℤ, List, [], ◌∷◌, length, Option, Some, None, Vec}
use Rattle.std.specs.Global.{Global}
use Rattle.std.specs.List.{AllByRecursion}
use Rattle.bencoding.specs.Trees.{Tree, number, string, items, dictionary, Fields, no_fields, field, spelling, IsTree}
use Rattle.bencoding.specs.declared.values.Field.{Field}
use Rattle.bencoding.specs.declared.values.Ben.{Ben}
use Rattle.bencoding.specs.declared.values.TheConstants.{DEPTH_LIMIT}
use Rattle.bencoding.specs.steps.Printed.{fields_view}
use Rattle.nodes_tracker.specs.declared.peers.Peer.{Peer}
use Rattle.nodes_tracker.specs.declared.peers.TheConstants.{PEER_LIMIT}
use Rattle.nodes_tracker.specs.Swarms.{is_left}

-- a number under a key of six bytes is a peer, where it may be left
abbrev pub numbered : List ℕ → ℤ → Option Peer
numbered key left = if length key == 6 && is_left left
    then Some (record { address = key; left = left }) else None

abbrev pub tree_peer : List ℕ → Tree → Option Peer
tree_peer key (number left) = numbered key left
tree_peer key (string bytes) = None
tree_peer key (items ts) = None
tree_peer key (dictionary fs) = None

-- a peer before others
abbrev pub peer_before : Option Peer → Option (List Peer) → Option (List Peer)
peer_before (Some peer) (Some peers) = Some (peer ∷ peers)
peer_before peer peers = None

-- the peers of fields, where each is one
abbrev pub tree_peers : Fields → Option (List Peer)
tree_peers no_fields = Some []
tree_peers (field key t fs) = peer_before (tree_peer key t) (tree_peers fs)

-- the text is this dictionary, and nothing else
pub record IsDictionary (text : List ℕ) (fields : Fields) : Type 0 where
  pub is_tree : IsTree DEPTH_LIMIT (dictionary fields)
  pub spelled : text ≡ spelling (dictionary fields)
  pub alone : (other : Fields) → IsTree DEPTH_LIMIT (dictionary other)
      → text ≡ spelling (dictionary other) → other ≡ fields

-- what was read of a text: the fields of the dictionary that it is, or that it is none
abbrev pub AreFieldsRead : List ℕ → Option (Vec (Field Ben) Global) → Type 0
AreFieldsRead text (Some fields) = IsDictionary text (fields_view fields.items)
AreFieldsRead text None =
    (other : Fields) → IsTree DEPTH_LIMIT (dictionary other) → text ≡ spelling (dictionary other)
    → ⊥

-- the fields of a value, where it is a dictionary
abbrev pub AreFieldsOf : Tree → Option (Vec (Field Ben) Global) → Type 0
AreFieldsOf t (Some fields) = t ≡ dictionary (fields_view fields.items)
AreFieldsOf t None = (other : Fields) → t ≡ dictionary other → ⊥

-- ---- sizes

-- a peer is six bytes with a number left
pub record IsSmall (peer : Peer) : Type 0 where
  pub six : length peer.address ≡ 6
  pub left_ : is_left peer.left ≡ true

-- at most 1,000 of them
pub record AreFew (peers : List Peer) : Type 0 where
  pub few : length peers ≤ PEER_LIMIT
  pub each : AllByRecursion IsSmall peers
