-- The answers of `Tracker` can be printed.
use Rattle.std.proofs.Common.{◌≡◌, ◌≤◌, ◌<◌, ◌^◌, ◌-◌, ℕ, ℤ, ◌+ℤ◌, pos, negsuc, zero, suc, Bool, true, false, ◌&&◌, ◌||◌, not, cond, eqb, leb, ltb, int_lt, List, [], ◌∷◌, ◌++◌, length, codes, map, Option, Some, None, FitsSigned, refl, sym, ap, subst, ◌∙◌, arith, length-append}
use Rattle.std.specs.Int.{w64, int_min}
use Rattle.std.specs.Fmt.{decimal}
use Rattle.std.specs.FinMap.{get}
use Rattle.std.specs.List.{All, AllByRecursion, list_all}
use Rattle.std.specs.Str.{bytes_eq}
use Rattle.std.proofs.lemmas.Bool.{leb-true}
use Rattle.std.proofs.lemmas.Bool.Decides.{nat_tests}
use Rattle.std.proofs.lemmas.Int.{ints, int_min_is}
use Rattle.std.proofs.lemmas.List.Elements.{All-nil, All-append}
use Rattle.flux_values.specs.declared.values.Value.{Value}
use Rattle.flux_values.specs.declared.values.Value.TheVariants as values
use Rattle.flux_values.specs.declared.texts.TheConstants.{TEXT_LIMIT}
use Rattle.flux_values.specs.declared.answers.Answer.{Answer}
use Rattle.flux_values.specs.declared.answers.Put.{Put}
use Rattle.flux_values.specs.Values.{kind_of}
use Rattle.flux_values.specs.Reading.{IsValue}
use Rattle.flux_values.specs.Cells.{CellMap}
use Rattle.flux_library.specs.Answers.{the_text, ok, fails}
use Rattle.bencoding.specs.Trees.{number, spelling, spelled_string, spelled_fields}
use Rattle.nodes_tracker.specs.declared.asks.Ask.{Ask}
use Rattle.nodes_tracker.specs.declared.nodes.Node.{Node}
use Rattle.nodes_tracker.specs.declared.nodes.Node.TheVariants as nodes
use Rattle.nodes_tracker.specs.declared.peers.Peer.{Peer}
use Rattle.nodes_tracker.specs.Asks.{ask_of}
use Rattle.nodes_tracker.specs.Swarms.{is_left, are_bytes, is_peer, is_below, fields_of, kept, without, with_peer}
use Rattle.nodes_tracker.specs.Replies.{joined, announce_reply, scrape_reply}
use Rattle.nodes_tracker.specs.Nodes.{ask_kinds, sig_named}
use Rattle.nodes_tracker.specs.Calls.{swarm_name, completions_name, swarm_in, completions_in, read_ask_call, stops, asking, moved, put, swarm_put, completion_puts, one_more, moved_call, announce_call, swarm_call, scrape_call, ask_given, on_ask, one_text, answer_named}
use Rattle.nodes_tracker.specs.steps.Fields.{IsSmall, AreFew}
use Rattle.nodes_tracker.specs.laws.Swarms.{and_left, and_right, six_bytes, bytes_small, left_small}
use Rattle.nodes_tracker.specs.laws.Sizes.{left_fits, kept_short}
use Rattle.nodes_tracker.specs.laws.Members.{AreKept, held_fits, kept_in, kept_without, few_with}
use Rattle.nodes_tracker.specs.laws.Bytes.{text_bytes}
use Rattle.nodes_tracker.specs.laws.Asks.{IsAsk}
use Rattle.flux_journal.specs.Entries.{IsTextOf}
use Rattle.flux_upheld.specs.Printable.{HoldsValues, PutsValue, IsPrintable, AnswersPrintably}
use Rattle.flux_upheld.proofs.Printing.{bytes-all, both-bytes, decimal-bytes, prints-values, prints-failure, prints-bytes, prints-either}

abbrev IsByte : ℕ → Type 0
IsByte byte = byte < 256

-- ---- the text of a swarm

left-bytes : (z : ℤ) → FitsSigned w64 z → are_bytes (spelling (number z)) ≡ true
left-bytes (pos n) fits = both-bytes (decimal n) (101 ∷ []) (decimal-bytes n (omega (arith, ints))) refl
left-bytes (negsuc n) fits = both-bytes (decimal (suc n)) (101 ∷ []) (decimal-bytes (suc n) (omega (arith, ints))) refl

address-bytes : (peer : Peer) → is_peer peer ≡ true → are_bytes (spelled_string peer.address) ≡ true
address-bytes peer is =
    let six = six_bytes peer is in
    both-bytes (decimal (length peer.address) ++ (58 ∷ [])) peer.address
    (both-bytes (decimal (length peer.address)) (58 ∷ []) (decimal-bytes (length peer.address) (omega (arith, six))) refl) (bytes_small peer is)

fields-bytes : (peers : List Peer) → list_all is_peer peers ≡ true → are_bytes (spelled_fields (fields_of peers)) ≡ true
fields-bytes [] all = refl
fields-bytes (peer ∷ peers) all =
    let own = and_left (is_peer peer) (list_all is_peer peers) all in
    let more = fields-bytes peers (and_right (is_peer peer) (list_all is_peer peers) all) in
    both-bytes (spelled_string peer.address) (spelling (number peer.left) ++ spelled_fields (fields_of peers)) (address-bytes peer own)
    (both-bytes (spelling (number peer.left)) (spelled_fields (fields_of peers)) (left-bytes peer.left (left_fits peer.left (left_small peer own))) more)

kept-bytes : (peers : List Peer) → list_all is_peer peers ≡ true → are_bytes (kept peers) ≡ true
kept-bytes peers all = both-bytes (spelled_fields (fields_of peers)) (101 ∷ []) (fields-bytes peers all) refl

-- ---- the swarm that is put

with-peers : (peer : Peer) (peers : List Peer) → is_peer peer ≡ true → list_all is_peer peers ≡ true → list_all is_peer (with_peer peer peers) ≡ true
with-peers peer [] own all = rw own refl
with-peers peer (p ∷ peers) own all =
    by (is_below p.address peer.address) (with-peers peer peers own (and_right (is_peer p) (list_all is_peer peers) all))
  where
    by : (b : Bool) → list_all is_peer (with_peer peer peers) ≡ true → list_all is_peer (cond b (p ∷ with_peer peer peers) (peer ∷ p ∷ peers)) ≡ true
    by true more = rw (and_left (is_peer p) (list_all is_peer peers) all) more
    by false more = rw own all

-- a swarm that can be kept
record CanBeKept (peers : List Peer) : Type 0 where
  few : AreFew peers
  peers_ : list_all is_peer peers ≡ true

name-of : (front hash : List ℕ) → length front ≤ 8 → All IsByte front → All IsByte hash → length hash ≡ 20 → IsTextOf TEXT_LIMIT (front ++ hash)
name-of front hash few own bytes twenty = record { each = All-append IsByte front hash own bytes; few = omega (arith, few, twenty, length-append front hash) }

swarm-put : (hash : List ℕ) → All IsByte hash → length hash ≡ 20 → (peers : List Peer) → CanBeKept peers → PutsValue (swarm_put hash peers)
swarm-put hash bytes twenty [] can = record { name = name-of (codes "p") hash (omega arith) (bytes-all (codes "p") refl) bytes twenty; value = tt }
swarm-put hash bytes twenty (p ∷ peers) can = record {
  name = name-of (codes "p") hash (omega arith) (bytes-all (codes "p") refl) bytes twenty;
  value = (bytes-all (kept (p ∷ peers)) (kept-bytes (p ∷ peers) can.peers_), kept_short (p ∷ peers) can.few);
}

more-fits : (z : ℤ) → FitsSigned w64 z → FitsSigned w64 (one_more z)
more-fits z fits = let least = int_min_is (z +ℤ pos 1) (pos (2 ^ 63 - 1)) in omega (arith, ints, fits, least)

completion-put : (action hash : List ℕ) → All IsByte hash → length hash ≡ 20 → (completions : ℤ) → FitsSigned w64 completions → AllByRecursion PutsValue (completion_puts action hash completions)
completion-put action hash bytes twenty completions fits = by (bytes_eq action (codes "completed"))
  where
    by : (b : Bool) → AllByRecursion PutsValue (cond b (put (completions_name hash) (Some (values.Int (one_more completions))) ∷ []) [])
    by true = (record { name = name-of (codes "c") hash (omega arith) (bytes-all (codes "c") refl) bytes twenty; value = more-fits completions fits }, tt)
    by false = tt

-- ---- answers

read-prints : (ask : Option Ask) → IsPrintable (read_ask_call ask)
read-prints None = prints-failure 2
read-prints (Some ask) = prints-values (values.Text ask.action ∷ values.Text ask.hash ∷ values.Text ask.peer ∷ values.Int ask.left ∷ [])

module _ (ask : Ask) (cell : CellMap) (valid : IsAsk ask) (twenty : length ask.hash ≡ 20) (peer : is_peer (asking ask) ≡ true) where
  others : List Peer
  others = without ask.peer (swarm_in cell ask.hash)

  are : AreKept others
  unfolding others
  are = kept_without ask.peer (swarm_in cell ask.hash) (kept_in (get cell (swarm_name ask.hash)))

  small : IsSmall (asking ask)
  small = record { six = six_bytes (asking ask) peer; left_ = left_small (asking ask) peer }

  moved-kept : (b : Bool) → (not b && leb 1000 (length others)) ≡ false → CanBeKept (cond b others (with_peer (asking ask) others))
  moved-kept true e = record { few = record { few = are.few; each = are.small }; peers_ = are.peers }
  moved-kept false e =
      let lt : length others < 1000 = grind (arith, nat_tests, e) in
      record { few = few_with (asking ask) others small (record { few = are.few; each = are.small }) lt; peers_ = with-peers (asking ask) others peer are.peers }

  moved-prints : (not (stops ask.action) && leb 1000 (length others)) ≡ false → IsPrintable (moved_call ask cell (moved ask.action (asking ask) others) (joined others))
  moved-prints e = record {
    puts = (
      swarm-put ask.hash valid.hash_.0 twenty (moved ask.action (asking ask) others) (moved-kept (stops ask.action) e),
      completion-put ask.action ask.hash valid.hash_.0 twenty (completions_in cell ask.hash) (held_fits (get cell (completions_name ask.hash))),
    );
    emits = All-nil IsByte;
  }

  announce-prints : IsPrintable (announce_call ask cell others)
  announce-prints = by (not (stops ask.action) && leb 1000 (length others)) refl
    where
      by : (b : Bool) → (not (stops ask.action) && leb 1000 (length others)) ≡ b → IsPrintable (announce_call ask cell others)
      by true e = rw e (prints-failure 3)
      by false e = rw e (moved-prints e)

  of-others : IsPrintable (announce_call ask cell (without ask.peer (swarm_in cell ask.hash)))
  unfolding others
  of-others = announce-prints

left-not_negative : (z : ℤ) → FitsSigned w64 z → int_lt z (pos 0) ≡ false → is_left z ≡ true
left-not_negative (pos n) fits e = let lt : n < 2 ^ 63 = omega (arith, ints, fits) in grind (arith, nat_tests)
left-not_negative (negsuc n) fits e = absurd cc

or-false : (a b : Bool) → (a || b) ≡ false → (a ≡ false) × (b ≡ false)
or-false true b e = absurd cc
or-false false b e = (refl, e)

is-equal : (a b : ℕ) → not (eqb a b) ≡ false → a ≡ b
is-equal a b e = grind (arith, nat_tests, e)

swarm-prints : (ask : Ask) (cell : CellMap) → IsAsk ask → IsPrintable (swarm_call ask cell)
swarm-prints ask cell valid = by (not (eqb (length ask.hash) 20) || (not (eqb (length ask.peer) 6) || int_lt ask.left (pos 0))) refl
  where
    by : (b : Bool) → (not (eqb (length ask.hash) 20) || (not (eqb (length ask.peer) 6) || int_lt ask.left (pos 0))) ≡ b → IsPrintable (swarm_call ask cell)
    by true e = rw e (prints-failure 4)
    by false e =
        let first = or-false (not (eqb (length ask.hash) 20)) (not (eqb (length ask.peer) 6) || int_lt ask.left (pos 0)) e in
        let second = or-false (not (eqb (length ask.peer) 6)) (int_lt ask.left (pos 0)) first.1 in
        let six : length ask.peer ≡ 6 = is-equal (length ask.peer) 6 second.0 in
        let eq : eqb (length ask.peer) 6 ≡ true = grind (arith, nat_tests) in
        let peer : is_peer (asking ask) ≡ true = rw (eq, text_bytes ask.peer valid.peer_, left-not_negative ask.left valid.left_ second.1) refl in
        rw e (of-others ask cell valid (is-equal (length ask.hash) 20 first.0) peer)

scrape-prints : (hash : List ℕ) (cell : CellMap) → IsPrintable (scrape_call hash cell)
scrape-prints hash cell =
    let reply = values.Text (spelling (scrape_reply hash (swarm_in cell hash) (completions_in cell hash))) ∷ [] in
    prints-either (eqb (length hash) 20) (ok reply) (fails 4) (prints-values reply) (prints-failure 4)

-- ---- nodes

one-valid : (args : List Value) → AllByRecursion IsValue args → All IsByte (one_text args)
one-valid (values.Text t ∷ []) all = all.0.0
one-valid (values.Text t ∷ v ∷ args) all = All-nil IsByte
one-valid (values.Int z ∷ args) all = All-nil IsByte
one-valid (values.Bool b ∷ args) all = All-nil IsByte
one-valid [] all = All-nil IsByte

-- of the lists of values a node is called with those of an ask
one-ask : (P : Option Ask → Type 0) → ((ask : Ask) → IsAsk ask → P (Some ask)) → (args : List Value) → map kind_of args ≡ ask_kinds → AllByRecursion IsValue args → P (ask_given args)
one-ask P call (values.Text action ∷ values.Text hash ∷ values.Text peer ∷ values.Int left ∷ []) e all =
    call (record { action = action; hash = hash; peer = peer; left = left }) (record { action_ = all.0; hash_ = all.1.0; peer_ = all.1.1.0; left_ = all.1.1.1.0 })
one-ask P call args e all = absurd cc

on-one : (call : Ask → CellMap → Answer) → ((ask : Ask) → IsAsk ask → (cell : CellMap) → IsPrintable (call ask cell)) → (args : List Value) → map kind_of args ≡ ask_kinds → AllByRecursion IsValue args
    → (cells : List CellMap) → IsPrintable (on_ask call (ask_given args) cells)
on-one call prints args e all cells = one-ask (λ given. IsPrintable (on_ask call given cells)) (λ ask valid. by ask valid cells) args e all
  where
    by : (ask : Ask) → IsAsk ask → (cs : List CellMap) → IsPrintable (on_ask call (Some ask) cs)
    by ask valid [] = prints-values []
    by ask valid (cell ∷ []) = prints ask valid cell
    by ask valid (cell ∷ next ∷ cs) = prints-values []

pub tracker-prints : (node : Option Node) → AnswersPrintably (sig_named node) (answer_named node)
tracker-prints None = tt
tracker-prints (Some nodes.Listen) = λ args cells fits_ all held. let h = fits_.role in absurd cc
tracker-prints (Some nodes.ReadAsk) = λ args cells fits_ all held. read-prints (ask_of (the_text args))
tracker-prints (Some nodes.Swarm) = λ args cells fits_ all held. on-one swarm_call (λ ask valid cell. swarm-prints ask cell valid) args fits_.kinds all cells
tracker-prints (Some nodes.Scrape) = λ args cells fits_ all held. on-one (λ ask. scrape_call ask.hash) (λ ask valid cell. scrape-prints ask.hash cell) args fits_.kinds all cells
tracker-prints (Some nodes.Send) = λ args cells fits_ all held. prints-bytes (one_text args) (one-valid args all)
tracker-prints (Some nodes.Failure) = λ args cells fits_ all held. prints-bytes (codes "d14:failure reason11:bad requeste") (bytes-all (codes "d14:failure reason11:bad requeste") refl)
tracker-prints (Some nodes.Full) = λ args cells fits_ all held. prints-bytes (codes "d14:failure reason10:swarm fulle") (bytes-all (codes "d14:failure reason10:swarm fulle") refl)
