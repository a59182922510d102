-- The peers of a hash, as a journal tells them.
use Rattle.std.specs.Prelude.{◌≡◌, ◌↔◌, ℕ, ℤ, true, false, List, Option, Some, None}
use Rattle.std.specs.List.{Contains}
use Rattle.flux_model.specs.declared.programs.Program.{Program}
use Rattle.flow_model.specs.declared.journals.Entry.{Entry}
use Rattle.nodes_tracker.specs.declared.asks.Ask.{Ask}
use Rattle.nodes_tracker.specs.declared.peers.Peer.{Peer}
use Rattle.nodes_tracker.specs.Swarms.{is_rising}
use Rattle.nodes_tracker.specs.Calls.{stops}
use Rattle.flux_swarms.specs.Asked.{asks_of, last_of}

-- a last ask isn't `stopped`, and has this number left
abbrev pub Leaves : Option Ask → ℤ → Type 0
Leaves None left = ⊥
Leaves (Some ask) left = (stops ask.action ≡ false) × (ask.left ≡ left)

-- The peers of a hash after a journal:
--   order   they rise bytewise, so each is there once;
--   each    they are those whose last good `Swarm` call for the hash isn't `stopped`, each with that call's number.
pub record ArePeersOf (p : Program) (entries : List Entry) (hash : List ℕ) (peers : List Peer) : Type 0 where
  pub order : is_rising peers ≡ true
  pub each : (peer : Peer)
      → Contains peers peer ↔ Leaves (last_of peer.address (asks_of p hash entries)) peer.left
