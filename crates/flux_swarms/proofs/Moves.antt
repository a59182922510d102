-- A swarm as asks move it has the peers that their last asks leave.
use Rattle.std.proofs.Common.{◌≡◌, ◌⊎◌, inl, inr, ℕ, Bool, true, false, cond, List, [], ◌∷◌, Option, Some, None, refl, sym, ap, ◌∙◌}
use Rattle.std.specs.Option.{option_or}
use Rattle.std.specs.Str.{bytes_eq}
use Rattle.std.proofs.lemmas.Slice.Eq.{bytes_eq-Decides}
use Rattle.flux_model.specs.declared.programs.Program.{Program}
use Rattle.flow_model.specs.declared.journals.Entry.{Entry}
use Rattle.flux_laws.proofs.Members.{In, in-from_contains, contains-from_in}
use Rattle.nodes_tracker.specs.declared.asks.Ask.{Ask}
use Rattle.nodes_tracker.specs.declared.peers.Peer.{Peer}
use Rattle.nodes_tracker.specs.Swarms.{without, with_peer}
use Rattle.nodes_tracker.specs.Calls.{stops, asking}
use Rattle.flux_swarms.specs.Asked.{asks_of, last_of}
use Rattle.flux_swarms.specs.Peers.{Leaves, ArePeersOf}
use Rattle.flux_swarms.specs.steps.Moves.{moved_by, moved_on, swarm_by}
use Rattle.flux_swarms.proofs.Rising.{Rises, rises, rising, rises_without, rises_with, none_with, in_without, without_in, in_with, with_in, same_peers}

-- ---- one ask

pub rises_moved : (ask : Ask) (swarm : List Peer) → Rises swarm → Rises (moved_by ask swarm)
rises_moved ask swarm all = by (stops ask.action)
  where
    others : List Peer
    others = without ask.peer swarm

    by : (b : Bool) → Rises (cond b others (with_peer (asking ask) others))
    by true = rises_without ask.peer swarm all
    by false = rises_with (asking ask) others (rises_without ask.peer swarm all) (none_with ask.peer swarm)

-- by its last ask, or else as it was before
abbrev pub Told : Option Ask → List Peer → Peer → Type 0
Told None swarm q = In q swarm
Told (Some ask) swarm q = Leaves (Some ask) q.left

abbrev this : Ask → List ℕ → Option Ask
this ask address = cond (bytes_eq ask.peer address) (Some ask) None

module _ (ask : Ask) (swarm : List Peer) (q : Peer) where
  -- a peer of the swarm is the asking one, which has its number, or was there and is another one
  one_told : In q (moved_by ask swarm) → Told (this ask q.address) swarm q
  one_told is = by (bytes_eq ask.peer q.address) refl (stops ask.action) refl is
    where
      others : List Peer
      others = without ask.peer swarm

      from : In q swarm × (q.address ≡ ask.peer → ⊥) → (b : Bool) → bytes_eq ask.peer q.address ≡ b
          → (t : Bool) → Told (cond b (Some ask) None) swarm q
      from had true e t = absurd (had.1 (sym ((bytes_eq-Decides ask.peer q.address).0 e)))
      from had false e t = had.0

      set : (b : Bool) → bytes_eq ask.peer q.address ≡ b → stops ask.action ≡ false
          → (asking ask ≡ q) ⊎ In q others → Told (cond b (Some ask) None) swarm q
      set true e goes (inl same) = (goes, ap (λ p. p.left) same)
      set true e goes (inr is) = from (in_without q ask.peer swarm is) true e true
      set false e goes (inl same) = let no : true ≡ false =
          sym ((bytes_eq-Decides ask.peer q.address).1 (ap (λ p. p.address) same)) ∙ e in absurd cc
      set false e goes (inr is) = from (in_without q ask.peer swarm is) false e true

      by : (b : Bool) → bytes_eq ask.peer q.address ≡ b → (t : Bool) → stops ask.action ≡ t
          → In q (cond t others (with_peer (asking ask) others)) → Told (cond b (Some ask) None) swarm q
      by b e true goes is = from (in_without q ask.peer swarm is) b e true
      by b e false goes is = set b e goes (in_with q (asking ask) others is)

  told_one : Told (this ask q.address) swarm q → In q (moved_by ask swarm)
  told_one told = by (bytes_eq ask.peer q.address) refl (stops ask.action) refl told
    where
      others : List Peer
      others = without ask.peer swarm

      other : bytes_eq ask.peer q.address ≡ false → q.address ≡ ask.peer → ⊥
      other e same = let no : true ≡ false = sym ((bytes_eq-Decides ask.peer q.address).1 (sym same)) ∙ e in cc

      by : (b : Bool) → bytes_eq ask.peer q.address ≡ b → (t : Bool) → stops ask.action ≡ t
          → Told (cond b (Some ask) None) swarm q → In q (cond t others (with_peer (asking ask) others))
      by true e true goes told = let no : true ≡ false = sym goes ∙ told.0 in absurd cc
      by true e false goes told = with_in q (asking ask) others (inl (λ i. record {
        address = (bytes_eq-Decides ask.peer q.address).0 e i;
        left = told.1 i;
      }))
      by false e true goes told = without_in q ask.peer swarm told (other e)
      by false e false goes told =
          with_in q (asking ask) others (inr (without_in q ask.peer swarm told (other e)))

-- ---- all asks

pub rises_on : (asks : List Ask) (swarm : List Peer) → Rises swarm → Rises (moved_on swarm asks)
rises_on [] swarm all = all
rises_on (ask ∷ asks) swarm all = rises_on asks (moved_by ask swarm) (rises_moved ask swarm all)

pub on_told : (asks : List Ask) (swarm : List Peer) (q : Peer) → In q (moved_on swarm asks)
    → Told (last_of q.address asks) swarm q
on_told [] swarm q is = is
on_told (ask ∷ asks) swarm q is = by (last_of q.address asks) (on_told asks (moved_by ask swarm) q is)
  where
    by : (last : Option Ask) → Told last (moved_by ask swarm) q
        → Told (option_or last (this ask q.address)) swarm q
    by None told = one_told ask swarm q told
    by (Some later) told = told

pub told_on : (asks : List Ask) (swarm : List Peer) (q : Peer) → Told (last_of q.address asks) swarm q
    → In q (moved_on swarm asks)
told_on [] swarm q told = told
told_on (ask ∷ asks) swarm q told =
    told_on asks (moved_by ask swarm) q (by (last_of q.address asks) told)
  where
    by : (last : Option Ask) → Told (option_or last (this ask q.address)) swarm q
        → Told last (moved_by ask swarm) q
    by None told = told_one ask swarm q told
    by (Some later) told = told

-- ---- the peers of a journal

from_none : (last : Option Ask) (q : Peer) → Told last [] q → Leaves last q.left
from_none None q told = told
from_none (Some ask) q told = told

to_none : (last : Option Ask) (q : Peer) → Leaves last q.left → Told last [] q
to_none None q leaves = leaves
to_none (Some ask) q leaves = leaves

pub moves_tell : (p : Program) (entries : List Entry) (hash : List ℕ)
    → ArePeersOf p entries hash (swarm_by p hash entries)
moves_tell p entries hash = record {
  order = rising (swarm_by p hash entries) (rises_on asks [] tt);
  each = λ q. (
    λ has. from_none (last_of q.address asks) q (on_told asks [] q (in-from_contains (moved_on [] asks) q has)),
    λ leaves. contains-from_in (moved_on [] asks) q
        (told_on asks [] q (to_none (last_of q.address asks) q leaves)),
  );
}
  where
    asks : List Ask
    asks = asks_of p hash entries

-- no others are
pub peers_once : (p : Program) (entries : List Entry) (hash : List ℕ) (peers : List Peer)
    → ArePeersOf p entries hash peers → peers ≡ swarm_by p hash entries
peers_once p entries hash peers are = same_peers peers swarm (rises peers are.order) (rises_on asks [] tt)
    (λ q is. told_on asks [] q (to_none (last_of q.address asks) q ((are.each q).0 (contains-from_in peers q is))))
    (λ q is. in-from_contains peers q
    ((are.each q).1 (from_none (last_of q.address asks) q (on_told asks [] q is))))
  where
    asks : List Ask
    asks = asks_of p hash entries

    swarm : List Peer
    swarm = swarm_by p hash entries
