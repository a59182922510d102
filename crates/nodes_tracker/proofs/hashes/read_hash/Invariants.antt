use Rattle.std.proofs.Common.{◌≡◌, ◌*◌, length, drop}
use Rattle.nodes_tracker.specs.Asks.{hex_bytes}
use Rattle.nodes_tracker.proofs.HashBytes.{behind_bytes}
use Rattle.nodes_tracker.proofs.hashes.read_hash.Given as goal

abbrev pub invariant-loop-place : goal.invariant-loop-place
invariant-loop-place l = record {
  so : behind_bytes l.hash.items (hex_bytes (drop (2 * l.place) l.text)) ≡ hex_bytes l.text;
  long : length l.hash.items ≡ l.place;
}
