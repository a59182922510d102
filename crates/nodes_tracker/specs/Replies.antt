-- The dictionaries that the tracker answers.
use Rattle.std.specs.Prelude.{ℕ, ◌-◌, ◌==◌, Bool, false, ℤ, pos, negsuc, List, length, take, map, codes}
use Rattle.std.specs.List.{concat, count_by}
use Rattle.bencoding.specs.Trees.{Tree, number, string, dictionary, no_fields, field}
use Rattle.nodes_tracker.specs.declared.peers.Peer.{Peer}
use Rattle.nodes_tracker.specs.declared.replies.TheConstants.{SHOWN_LIMIT}

-- nothing is left of a number
abbrev pub is_done : ℤ → Bool
is_done (pos n) = n == 0
is_done (negsuc n) = false

-- how many peers have nothing left, and how many are the others
abbrev pub complete : List Peer → ℕ
complete peers = count_by (λ p. is_done p.left) peers

abbrev pub incomplete : List Peer → ℕ
incomplete peers = length peers - complete peers

-- the first 50 of some peers, joined
abbrev pub joined : List Peer → List ℕ
joined peers = concat (map (λ p. p.address) (take SHOWN_LIMIT peers))

-- a dictionary of one field
abbrev pub alone : List ℕ → Tree → Tree
alone key value = dictionary (field key value no_fields)

-- the answer to an announce, by the swarm and the peers that are shown
abbrev pub announce_reply : List Peer → List ℕ → Tree
announce_reply swarm shown = dictionary (field (codes "complete") (number (pos (complete swarm)))
    (field (codes "incomplete") (number (pos (incomplete swarm)))
    (field (codes "interval") (number (pos 1800))
    (field (codes "peers") (string shown) no_fields))))

-- what a scrape says of a swarm
abbrev pub scraped_swarm : List Peer → ℤ → Tree
scraped_swarm swarm completions = dictionary
    (field (codes "complete") (number (pos (complete swarm)))
    (field (codes "downloaded") (number completions)
    (field (codes "incomplete") (number (pos (incomplete swarm))) no_fields)))

-- the answer to a scrape
abbrev pub scrape_reply : List ℕ → List Peer → ℤ → Tree
scrape_reply hash swarm completions =
    alone (codes "files") (alone hash (scraped_swarm swarm completions))
