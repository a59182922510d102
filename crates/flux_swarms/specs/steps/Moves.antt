-- A swarm as asks move it, one after another.
use Rattle.std.specs.Prelude.{ℕ, List, [], ◌∷◌}
use Rattle.flux_model.specs.declared.programs.Program.{Program}
use Rattle.flow_model.specs.declared.journals.Entry.{Entry}
use Rattle.nodes_tracker.specs.declared.asks.Ask.{Ask}
use Rattle.nodes_tracker.specs.declared.peers.Peer.{Peer}
use Rattle.nodes_tracker.specs.Swarms.{without}
use Rattle.nodes_tracker.specs.Calls.{asking, moved}
use Rattle.flux_swarms.specs.Asked.{asks_of}

abbrev pub moved_by : Ask → List Peer → List Peer
moved_by ask swarm = moved ask.action (asking ask) (without ask.peer swarm)

abbrev pub moved_on : List Peer → List Ask → List Peer
moved_on swarm [] = swarm
moved_on swarm (ask ∷ asks) = moved_on (moved_by ask swarm) asks

abbrev pub swarm_by : Program → List ℕ → List Entry → List Peer
swarm_by p hash entries = moved_on [] (asks_of p hash entries)
