-- What is printed of a swarm.
use Rattle.std.specs.Prelude.{ℕ, ◌+◌, ◌*◌, List, [], ◌∷◌, ◌++◌, length, codes}
use Rattle.std.specs.List.{flat_map}
use Rattle.std.specs.Fmt.{decimal, signed_decimal}
use Rattle.nodes_tracker.specs.declared.peers.Peer.{Peer}

-- four numbers with dots between them
abbrev pub dotted : ℕ → ℕ → ℕ → ℕ → List ℕ
dotted first second third fourth = decimal first ++ codes "." ++ decimal second ++ codes "."
    ++ decimal third ++ codes "." ++ decimal fourth

-- the number of two bytes, the higher one first, after a colon
abbrev pub port_of : ℕ → ℕ → List ℕ
port_of high low = codes ":" ++ decimal (256 * high + low)

-- the six bytes of a peer: four of its address and two of its port; of another length: nothing
abbrev pub printed_address : List ℕ → List ℕ
printed_address (first ∷ second ∷ third ∷ fourth ∷ high ∷ low ∷ []) =
    dotted first second third fourth ++ port_of high low
printed_address other = []

-- a peer's line: its address and its number left
abbrev pub printed_peer : Peer → List ℕ
printed_peer peer =
    printed_address peer.address ++ codes " " ++ signed_decimal peer.left ++ codes "\n"

-- how many peers there are, and their lines
abbrev pub printed_swarm : List Peer → List ℕ
printed_swarm peers =
    codes "peers " ++ decimal (length peers) ++ codes "\n" ++ flat_map printed_peer peers
