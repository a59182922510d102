-- The library keeps the laws of a library (an `impl` takes its laws' proofs from here).
use Rattle.std.proofs.Common.{◌≡◌, ◌≤◌, ℕ, ℤ, ◌&&◌, ◌||◌, Bool, true, false, cond, eqb, leb, not, int_lt, List, [], ◌∷◌, length, map, codes, Option, Some, None, IfSome, pos, refl, arith}
use Rattle.std.specs.List.{AllByRecursion}
use Rattle.std.specs.FinMap.{get}
use Rattle.std.specs.Str.{bytes_eq}
use Rattle.std.proofs.lemmas.Bool.Decides.{nat_tests}
use Rattle.flux_values.specs.Cells.{CellMap}
use Rattle.flux_values.specs.Reading.{IsValue}
use Rattle.flux_values.specs.Values.{kind_of}
use Rattle.flux_values.specs.declared.values.Value.{Value}
use Rattle.flux_values.specs.declared.values.Value.TheVariants as values
use Rattle.flux_values.specs.declared.answers.Mode.TheVariants.{Writer}
use Rattle.flux_values.specs.declared.answers.CallResult.TheVariants.{Good}
use Rattle.flux_library.specs.Answers.{the_text, fails}
use Rattle.flux_library.specs.Libraries.{IsWrite, IsAnswerOf, IsLawfulNode, IsLawful}
use Rattle.flux_library.specs.laws.Types.{types_short}
use Rattle.bencoding.specs.Trees.{spelling}
use Rattle.nodes_tracker.specs.declared.asks.Ask.{Ask}
use Rattle.nodes_tracker.specs.declared.nodes.Node.{Node}
use Rattle.nodes_tracker.specs.declared.nodes.Node.TheVariants as nodes
use Rattle.nodes_tracker.specs.declared.peers.Peer.{Peer}
use Rattle.nodes_tracker.specs.Asks.{ask_of}
use Rattle.nodes_tracker.specs.Swarms.{kept, without, with_peer}
use Rattle.nodes_tracker.specs.Replies.{joined, announce_reply, scrape_reply}
use Rattle.nodes_tracker.specs.Nodes.{node_named, sig_of, sig_named, ask_kinds}
use Rattle.nodes_tracker.specs.Calls.{swarm_name, completions_name, swarm_in, completions_in, read_ask_call, stops, asking, moved, put, swarm_put, completion_puts, one_more, moved_call, announce_call, swarm_call, scrape_call, ask_given, on_ask, one_text, answer_named}
use Rattle.nodes_tracker.specs.Trackers.{tracker_meaning}
use Rattle.nodes_tracker.specs.laws.Sizes.{complete_few, announce_short, scrape_short, joined_short}
use Rattle.nodes_tracker.specs.laws.Members.{AreKept, held_fits, kept_in, kept_without, with_one_more}
use Rattle.nodes_tracker.specs.laws.Bytes.{text_valid, text_bytes, shown_bytes, announce_bytes, scrape_bytes}
use Rattle.nodes_tracker.specs.laws.Asks.{IsAsk, ask_valid}

-- ---- what is read is a value

empty_valid : IsValue (values.Text [])
empty_valid = text_valid [] refl (omega arith)

one_valid : (args : List Value) → AllByRecursion IsValue args
    → IsValue (values.Text (one_text args))
one_valid (values.Text t ∷ []) all = all.0
one_valid (values.Text t ∷ v ∷ args) all = empty_valid
one_valid (values.Int z ∷ args) all = empty_valid
one_valid (values.Bool b ∷ args) all = empty_valid
one_valid [] all = empty_valid

-- ---- puts

writes : (name : List ℕ) (value : Option Value)
    → IsWrite (sig_of nodes.Swarm).cells (put name value)
writes name value = record {
  use_ = record { name = codes "swarms"; mode = Writer };
  before = [];
  after = [];
  among = refl;
  name = refl;
  mode = refl;
}

swarm_writes : (hash : List ℕ) (ps : List Peer)
    → IsWrite (sig_of nodes.Swarm).cells (swarm_put hash ps)
swarm_writes hash [] = writes (swarm_name hash) None
swarm_writes hash (p ∷ ps) = writes (swarm_name hash) (Some (values.Text (kept (p ∷ ps))))

completion_writes : (action hash : List ℕ) (completions : ℤ)
    → AllByRecursion (IsWrite (sig_of nodes.Swarm).cells) (completion_puts action hash completions)
completion_writes action hash completions = one (bytes_eq action (codes "completed"))
  where
    one : (b : Bool) → AllByRecursion (IsWrite (sig_of nodes.Swarm).cells)
        (cond b (put (completions_name hash) (Some (values.Int (one_more completions))) ∷ []) [])
    one true = (writes (completions_name hash) (Some (values.Int (one_more completions))), tt)
    one false = tt

-- ---- answers

read_ask_lawful : (ask : Option Ask) → IfSome ask IsAsk
    → IsAnswerOf (sig_of nodes.ReadAsk) (read_ask_call ask)
read_ask_lawful None valid =
    record { result = (omega arith, omega arith); puts = tt; emits = omega arith }
read_ask_lawful (Some ask) valid =
    record {
      result = (refl, (valid.action_, (valid.hash_, (valid.peer_, (valid.left_, tt)))));
      puts = tt;
      emits = omega arith;
    }

moved_lawful : (ask : Ask) (cell : CellMap) (swarm others : List Peer) → length swarm ≤ 1001
    → AreKept others → IsAnswerOf (sig_of nodes.Swarm) (moved_call ask cell swarm (joined others))
moved_lawful ask cell swarm others few are =
    let shown = joined others in
    let le : length shown ≤ 300 = joined_short others are.small in
    let done = complete_few swarm few in
    let valid = text_valid (spelling (announce_reply swarm shown))
    (announce_bytes swarm shown (omega (arith, done)) (omega (arith, few)) le
    (shown_bytes others are.peers))
    (let short = announce_short swarm shown few le in omega (arith, short)) in
    record {
      result = (refl, (valid, tt));
      puts = (
        swarm_writes ask.hash swarm,
        completion_writes ask.action ask.hash (completions_in cell ask.hash),
      );
      emits = omega arith;
    }

announce_lawful : (ask : Ask) (cell : CellMap) (others : List Peer) → AreKept others
    → IsAnswerOf (sig_of nodes.Swarm) (announce_call ask cell others)
announce_lawful ask cell others are = one (not (stops ask.action) && leb 1000 (length others))
  where
    few : (b : Bool) → length (cond b others (with_peer (asking ask) others)) ≤ 1001
    few true = let le = are.few in omega (arith, le)
    few false = let le =
        are.few in let more = with_one_more (asking ask) others in omega (arith, le, more)

    one : (b : Bool) → IsAnswerOf (sig_of nodes.Swarm)
        (cond b (fails 3) (moved_call ask cell (moved ask.action (asking ask) others)
        (joined others)))
    one true = record { result = (omega arith, omega arith); puts = tt; emits = omega arith }
    one false = moved_lawful ask cell (moved ask.action (asking ask) others) others
        (few (stops ask.action)) are

swarm_lawful : (ask : Ask) (cell : CellMap) → IsAsk ask
    → IsAnswerOf (sig_of nodes.Swarm) (swarm_call ask cell)
swarm_lawful ask cell valid = one (not (eqb (length ask.hash) 20)
    || (not (eqb (length ask.peer) 6) || int_lt ask.left (pos 0)))
  where
    others : List Peer
    others = without ask.peer (swarm_in cell ask.hash)

    one : (b : Bool) → IsAnswerOf (sig_of nodes.Swarm)
        (cond b (fails 4) (announce_call ask cell others))
    one true = record { result = (omega arith, omega arith); puts = tt; emits = omega arith }
    one false = announce_lawful ask cell others
        (kept_without ask.peer (swarm_in cell ask.hash) (kept_in (get cell (swarm_name ask.hash))))

scrape_lawful : (ask : Ask) (cell : CellMap) → IsAsk ask
    → IsAnswerOf (sig_of nodes.Scrape) (scrape_call ask.hash cell)
scrape_lawful ask cell valid = one (eqb (length ask.hash) 20) refl
  where
    swarm : List Peer
    swarm = swarm_in cell ask.hash

    completions : ℤ
    completions = completions_in cell ask.hash

    reply : List ℕ
    reply = spelling (scrape_reply ask.hash swarm completions)

    one : (b : Bool) → eqb (length ask.hash) 20 ≡ b
        → IsAnswerOf (sig_of nodes.Scrape)
        (cond b (record { result = Good (values.Text reply ∷ []); puts = []; emits = [] })
        (fails 4))
    one false e = record { result = (omega arith, omega arith); puts = tt; emits = omega arith }
    one true e =
        let twenty : length ask.hash ≡ 20 = grind (arith, nat_tests) in
        let few : length swarm ≤ 1001 = let le = (kept_in (get cell (swarm_name ask.hash))).few in
        omega (arith, le) in
        let done = complete_few swarm few in
        let fits_ = held_fits (get cell (completions_name ask.hash)) in
        let valid_ = text_valid reply
        (scrape_bytes ask.hash swarm completions twenty (text_bytes ask.hash valid.hash_)
        (omega (arith, done)) (omega (arith, few)) fits_)
        (let short = scrape_short ask.hash swarm completions twenty few fits_ in
        omega (arith, short)) in
        record { result = (refl, (valid_, tt)); puts = tt; emits = omega arith }

-- ---- nodes

-- of the lists of cells a node is called with those that it uses
one_cell : (P : List CellMap → Type 0) → ((cell : CellMap) → P (cell ∷ [])) → (cells : List CellMap)
    → length cells ≡ 1 → P cells
one_cell P call [] e = absurd (omega (arith, e))
one_cell P call (cell ∷ []) e = call cell
one_cell P call (cell ∷ next ∷ cells) e = absurd (omega (arith, e))

-- and of those of values with an ask
one_ask : (P : Option Ask → Type 0) → ((ask : Ask) → IsAsk ask → P (Some ask)) → (args : List Value)
    → map kind_of args ≡ ask_kinds → AllByRecursion IsValue args → P (ask_given args)
one_ask P call (values.Text action ∷ values.Text hash ∷ values.Text peer ∷ values.Int left ∷ []) e
    all = call (record { action = action; hash = hash; peer = peer; left = left })
    (record { action_ = all.0; hash_ = all.1.0; peer_ = all.1.1.0; left_ = all.1.1.1.0 })
one_ask P call args e all = absurd cc

node_lawful : (node : Option Node) → IsLawfulNode (sig_named node) (answer_named node)
node_lawful None = tt
node_lawful (Some nodes.Listen) =
    record { source = refl; answers = λ args cells fits_ all. let h = fits_.role in absurd cc }
node_lawful (Some nodes.ReadAsk) =
    record {
      source = tt;
      answers = λ args cells fits_ all.
          read_ask_lawful (ask_of (the_text args)) (ask_valid (the_text args));
    }
node_lawful (Some nodes.Swarm) = record {
  source = tt;
  answers = λ args cells fits_ all. one_cell
      (λ cs. IsAnswerOf (sig_of nodes.Swarm) (on_ask swarm_call (ask_given args) cs))
      (λ cell. one_ask (λ given. IsAnswerOf (sig_of nodes.Swarm)
      (on_ask swarm_call given (cell ∷ []))) (λ ask valid. swarm_lawful ask cell valid) args
      fits_.kinds all) cells fits_.cells_;
}
node_lawful (Some nodes.Scrape) = record {
  source = tt;
  answers = λ args cells fits_ all. one_cell
      (λ cs. IsAnswerOf (sig_of nodes.Scrape)
      (on_ask (λ ask. scrape_call ask.hash) (ask_given args) cs))
      (λ cell. one_ask (λ given. IsAnswerOf (sig_of nodes.Scrape)
      (on_ask (λ ask. scrape_call ask.hash) given (cell ∷ [])))
      (λ ask valid. scrape_lawful ask cell valid) args fits_.kinds all) cells fits_.cells_;
}
node_lawful (Some nodes.Send) =
    record {
      source = tt;
      answers = λ args cells fits_ all. record {
        result = (refl, tt);
        puts = tt;
        emits = let short =
            (one_valid args all).1 in omega arith;
      };
    }
node_lawful (Some nodes.Failure) =
    record {
      source = tt;
      answers =
          λ args cells fits_ all. record { result = (refl, tt); puts = tt; emits = omega arith };
    }
node_lawful (Some nodes.Full) =
    record {
      source = tt;
      answers =
          λ args cells fits_ all. record { result = (refl, tt); puts = tt; emits = omega arith };
    }

pub tracker_lawful : {S : Type 0} (library : S) → IsLawful tracker_meaning
tracker_lawful library =
    record { short = types_short; nodes = λ name. node_lawful (node_named name) }
