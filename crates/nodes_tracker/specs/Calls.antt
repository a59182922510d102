-- What each node answers.
use Rattle.std.specs.Prelude.{ℕ, ◌+ℤ◌, ◌-◌, ◌^◌, ◌==◌, ◌&&◌, ◌||◌, not, nat_lt, nat_le, int_lt, if◌then◌else◌, Bool, ℤ, pos, negsuc, List, [], ◌∷◌, ◌++◌, length, Option, Some, None, codes}
use Rattle.std.specs.Int.{int_min}
use Rattle.std.specs.Str.{bytes_eq}
use Rattle.std.specs.FinMap.{get}
use Rattle.flux_values.specs.Cells.{CellMap}
use Rattle.flux_values.specs.declared.values.Value.{Value}
use Rattle.flux_values.specs.declared.values.Value.TheVariants.{Int, Text}
use Rattle.flux_values.specs.declared.values.Value.TheVariants as values
use Rattle.flux_values.specs.declared.answers.Answer.{Answer}
use Rattle.flux_values.specs.declared.answers.Put.{Put}
use Rattle.flux_values.specs.declared.answers.CallResult.TheVariants.{Good}
use Rattle.flux_library.specs.Answers.{ok, fails, emits, the_text}
use Rattle.bencoding.specs.Trees.{spelling}
use Rattle.nodes_tracker.specs.declared.asks.Ask.{Ask}
use Rattle.nodes_tracker.specs.declared.nodes.Node.{Node}
use Rattle.nodes_tracker.specs.declared.nodes.Node.TheVariants as nodes
use Rattle.nodes_tracker.specs.declared.peers.Peer.{Peer}
use Rattle.nodes_tracker.specs.declared.peers.TheConstants.{PEER_LIMIT}
use Rattle.nodes_tracker.specs.Asks.{ask_of}
use Rattle.nodes_tracker.specs.Swarms.{kept, swarm_of, without, with_peer}
use Rattle.nodes_tracker.specs.Replies.{joined, announce_reply, scrape_reply}

-- ---- what the cell has of a hash

-- under which names it has the swarm and the number of completions
abbrev pub swarm_name : List ℕ → List ℕ
swarm_name hash = codes "p" ++ hash

abbrev pub completions_name : List ℕ → List ℕ
completions_name hash = codes "c" ++ hash

abbrev pub swarm_in : CellMap → List ℕ → List Peer
swarm_in cell hash = swarm_of (get cell (swarm_name hash))

-- a number of 64 bits
abbrev pub fits : ℤ → Bool
fits (pos n) = nat_lt n (2 ^ 63)
fits (negsuc n) = nat_lt n (2 ^ 63)

-- an absent number is 0, and so is one of another kind, or that no program can hold
abbrev pub number_or_zero : Option Value → ℤ
number_or_zero (Some (Int number)) = if fits number then number else pos 0
number_or_zero (Some (values.Bool truth)) = pos 0
number_or_zero (Some (Text text)) = pos 0
number_or_zero None = pos 0

abbrev pub completions_in : CellMap → List ℕ → ℤ
completions_in cell hash = number_or_zero (get cell (completions_name hash))

-- ---- `ReadAsk`

-- it is ok with what the line asks, and fails 2 where that is nothing
abbrev pub read_ask_call : Option Ask → Answer
read_ask_call (Some ask) = ok (Text ask.action ∷ Text ask.hash ∷ Text ask.peer ∷ Int ask.left ∷ [])
read_ask_call None = fails 2

-- ---- `Swarm`

abbrev pub stops : List ℕ → Bool
stops action = bytes_eq action (codes "stopped")

-- the swarm after an action, from the peers other than the asking one: `stopped` takes that one
-- out, and every other action sets its number left
abbrev pub moved : List ℕ → Peer → List Peer → List Peer
moved action peer others = if stops action then others else with_peer peer others

abbrev pub put : List ℕ → Option Value → Put
put name value = record { cell = codes "swarms"; name = name; value = value }

-- the new swarm is put, or its name removed where it is empty
abbrev pub swarm_put : List ℕ → List Peer → Put
swarm_put hash [] = put (swarm_name hash) None
swarm_put hash (p ∷ peers) = put (swarm_name hash) (Some (Text (kept (p ∷ peers))))

-- one more, up to the greatest i64
abbrev pub one_more : ℤ → ℤ
one_more number = int_min (number +ℤ pos 1) (pos (2 ^ 63 - 1))

-- `completed` then puts one completion more
abbrev pub completion_puts : List ℕ → List ℕ → ℤ → List Put
completion_puts action hash completions =
    if bytes_eq action (codes "completed")
    then put (completions_name hash) (Some (Int (one_more completions))) ∷ [] else []

-- it is ok with the swarm's counts and the peers that are shown
abbrev pub moved_call : Ask → CellMap → List Peer → List ℕ → Answer
moved_call ask cell swarm shown = record {
  result = Good (Text (spelling (announce_reply swarm shown)) ∷ []);
  puts = swarm_put ask.hash swarm
      ∷ completion_puts ask.action ask.hash (completions_in cell ask.hash);
  emits = [];
}

-- the asking peer
abbrev pub asking : Ask → Peer
asking ask = record { address = ask.peer; left = ask.left }

-- by the peers other than the asking one: it fails 3 where they are 1,000, but for `stopped`, and
-- shows the first 50
abbrev pub announce_call : Ask → CellMap → List Peer → Answer
announce_call ask cell others =
    if not (stops ask.action) && nat_le PEER_LIMIT (length others) then fails 3
    else moved_call ask cell (moved ask.action (asking ask) others) (joined others)

-- it fails 4 where the hash hasn't 20 bytes, the peer hasn't 6 or the number is negative
abbrev pub swarm_call : Ask → CellMap → Answer
swarm_call ask cell =
    if not (length ask.hash == 20) || (not (length ask.peer == 6) || int_lt ask.left (pos 0))
    then fails 4
    else announce_call ask cell (without ask.peer (swarm_in cell ask.hash))

-- ---- `Scrape`

-- it is ok with the swarm's counts; it fails 4 where the hash hasn't 20 bytes
abbrev pub scrape_call : List ℕ → CellMap → Answer
scrape_call hash cell = if length hash == 20
    then ok (Text (spelling
    (scrape_reply hash (swarm_in cell hash) (completions_in cell hash))) ∷ [])
    else fails 4

-- ---- all nodes

-- the ask that is in values; of no meaning for values of other kinds
abbrev pub ask_given : List Value → Option Ask
ask_given (Text action ∷ Text hash ∷ Text peer ∷ Int left ∷ []) =
    Some (record { action = action; hash = hash; peer = peer; left = left })
ask_given args = None

-- the answer on an ask and the one cell; of no meaning for more cells or fewer
abbrev pub on_ask : (Ask → CellMap → Answer) → Option Ask → List CellMap → Answer
on_ask call (Some ask) (cell ∷ []) = call ask cell
on_ask call ask cells = ok []

-- the one text; of no meaning for other values
abbrev pub one_text : List Value → List ℕ
one_text (Text text ∷ []) = text
one_text args = []

-- what a node answers on values of its kinds and its cells
abbrev pub answer_of : Node → List Value → List CellMap → Answer
answer_of nodes.Listen args cells = ok []
answer_of nodes.ReadAsk args cells = read_ask_call (ask_of (the_text args))
answer_of nodes.Swarm args cells = on_ask swarm_call (ask_given args) cells
answer_of nodes.Scrape args cells = on_ask (λ ask. scrape_call ask.hash) (ask_given args) cells
answer_of nodes.Send args cells = emits (one_text args)
answer_of nodes.Failure args cells = emits (codes "d14:failure reason11:bad requeste")
answer_of nodes.Full args cells = emits (codes "d14:failure reason10:swarm fulle")

-- the answer of a name; of no meaning where the library doesn't have it
abbrev pub answer_named : Option Node → List Value → List CellMap → Answer
answer_named (Some node) args cells = answer_of node args cells
answer_named None args cells = ok []
