-- How long texts of the tracker are at most.
use Rattle.std.proofs.Common.{◌≡◌, ◌<◌, ◌≤◌, ℕ, zero, suc, ◌+◌, ◌*◌, ◌^◌, true, List, [], ◌∷◌, ◌++◌, length, map, take, codes, pos, negsuc, ℤ, FitsSigned, arith, length-append}
use Rattle.std.specs.Int.{w64}
use Rattle.std.specs.List.{AllByRecursion, concat}
use Rattle.std.specs.Fmt.{decimal}
use Rattle.std.proofs.lemmas.Fmt.{length-decimal-le}
use Rattle.std.proofs.lemmas.Bool.Decides.{nat_tests}
use Rattle.std.proofs.lemmas.Int.{ints}
use Rattle.std.proofs.lemmas.List.Sums.{count_by-le-length}
use Rattle.bencoding.specs.Trees.{Tree, number, string, dictionary, Fields, no_fields, field, spelling, spelled_string, spelled_fields}
use Rattle.nodes_tracker.specs.declared.peers.Peer.{Peer}
use Rattle.nodes_tracker.specs.Swarms.{is_left, fields_of, kept}
use Rattle.nodes_tracker.specs.Replies.{is_done, complete, incomplete, joined, alone, announce_reply, scraped_swarm, scrape_reply}
use Rattle.nodes_tracker.specs.steps.Fields.{IsSmall, AreFew}

-- ---- numbers and strings

pub left_fits : (z : ℤ) → is_left z ≡ true → FitsSigned w64 z
left_fits (pos n) e = let lt : n < 2 ^ 63 = grind (arith, nat_tests) in omega (arith, ints)
left_fits (negsuc n) e = absurd cc

pub count_fits : (n : ℕ) → n < 2 ^ 63 → FitsSigned w64 (pos n)
count_fits n lt = omega (arith, ints)

number_short : (z : ℤ) → FitsSigned w64 z → length (spelling (number z)) ≤ 23
number_short (pos n) fits =
    let le = length-decimal-le 20 n (omega arith) (omega (arith, ints)) (omega (arith, ints)) in
    omega (arith, le, length-append (decimal n) (101 ∷ []))
number_short (negsuc n) fits =
    let le = length-decimal-le 20 (suc n) (omega arith) (omega (arith, ints))
    (omega (arith, ints)) in
    omega (arith, le, length-append (decimal (suc n)) (101 ∷ []))

string_short : (s : List ℕ) (n : ℕ) → length s ≤ n → n < 2 ^ 63 → length (spelled_string s) ≤ n + 21
string_short s n le small =
    let digits = length-decimal-le 20 (length s) (omega arith) (omega arith) (omega arith) in
    omega (
      arith,
      digits,
      le,
      length-append (decimal (length s) ++ (58 ∷ [])) s,
      length-append (decimal (length s)) (58 ∷ []),
    )

field_short : (key : List ℕ) (t : Tree) (fs : Fields) (a b c : ℕ) → length key ≤ a → a < 2 ^ 63
    → length (spelling t) ≤ b → length (spelled_fields fs) ≤ c
    → length (spelled_fields (field key t fs)) ≤ (a + 21) + (b + c)
field_short key t fs a b c key_le small value_le more_le =
    omega (
      arith,
      string_short key a key_le small,
      value_le,
      more_le,
      length-append (spelled_string key) (spelling t ++ spelled_fields fs),
      length-append (spelling t) (spelled_fields fs),
    )

dictionary_short : (fs : Fields) (c : ℕ) → length (spelled_fields fs) ≤ c
    → length (spelling (dictionary fs)) ≤ c + 2
dictionary_short fs c le = omega (arith, le, length-append (spelled_fields fs) (101 ∷ []))

nothing_short : length (spelled_fields no_fields) ≤ 0
nothing_short = omega arith

-- ---- a swarm

fields_short : (ps : List Peer) → AllByRecursion IsSmall ps
    → length (spelled_fields (fields_of ps)) ≤ 50 * length ps
fields_short [] each = omega arith
fields_short (p ∷ ps) each =
    let more = fields_short ps each.1 in
    let le = field_short p.address (number p.left) (fields_of ps) 6 23 (50 * length ps)
    (omega (arith, each.0.six)) (omega arith)
    (number_short p.left (left_fits p.left each.0.left_)) more in
    omega (arith, le)

pub kept_short : (ps : List Peer) → AreFew ps → length (kept ps) ≤ 65536
kept_short ps few =
    let le = dictionary_short (fields_of ps) (50 * length ps) (fields_short ps few.each) in
    omega (arith, le, few.few)

joined_first : (ps : List Peer) (n : ℕ) → AllByRecursion IsSmall ps
    → length (concat (map (λ p. p.address) (take n ps))) ≤ 6 * n
joined_first [] zero each = omega arith
joined_first [] (suc n) each = omega arith
joined_first (p ∷ ps) zero each = omega arith
joined_first (p ∷ ps) (suc n) each =
    let more = joined_first ps n each.1 in
    omega (
      arith,
      more,
      each.0.six,
      length-append p.address (concat (map (λ q. q.address) (take n ps))),
    )

pub joined_short : (ps : List Peer) → AllByRecursion IsSmall ps → length (joined ps) ≤ 300
joined_short ps each = let le = joined_first ps 50 each in omega (arith, le)

-- ---- replies

pub complete_few : (ps : List Peer) → length ps ≤ 1001 → complete ps ≤ 1001
complete_few ps le =
    let few = count_by-le-length (λ (p : Peer). is_done p.left) ps in omega (arith, few, le)

complete_short : (ps : List Peer) → length ps ≤ 1001
    → length (spelling (number (pos (complete ps)))) ≤ 23
complete_short ps le = number_short (pos (complete ps))
    (count_fits (complete ps) (let few = complete_few ps le in omega (arith, few)))

incomplete_short : (ps : List Peer) → length ps ≤ 1001
    → length (spelling (number (pos (incomplete ps)))) ≤ 23
incomplete_short ps le =
    number_short (pos (incomplete ps)) (count_fits (incomplete ps) (omega (arith, le)))

abbrev peers_field : List ℕ → Fields
peers_field shown = field (codes "peers") (string shown) no_fields

abbrev interval_field : List ℕ → Fields
interval_field shown = field (codes "interval") (number (pos 1800)) (peers_field shown)

abbrev incomplete_field : List Peer → Fields → Fields
incomplete_field ps fs = field (codes "incomplete") (number (pos (incomplete ps))) fs

pub announce_short : (ps : List Peer) (shown : List ℕ) → length ps ≤ 1001 → length shown ≤ 300
    → length (spelling (announce_reply ps shown)) ≤ 507
announce_short ps shown le few =
    dictionary_short (field (codes "complete") (number (pos (complete ps)))
    (incomplete_field ps (interval_field shown))) 505
    (field_short (codes "complete") (number (pos (complete ps)))
    (incomplete_field ps (interval_field shown)) 8 23 453 (omega arith) (omega arith)
    (complete_short ps le)
    (field_short (codes "incomplete") (number (pos (incomplete ps))) (interval_field shown) 10 23
    399 (omega arith) (omega arith) (incomplete_short ps le)
    (field_short (codes "interval") (number (pos 1800)) (peers_field shown) 8 23 347 (omega arith)
    (omega arith) (number_short (pos 1800) (count_fits 1800 (omega arith)))
    (field_short (codes "peers") (string shown) no_fields 5 321 0 (omega arith) (omega arith)
    (string_short shown 300 few (omega arith)) nothing_short))))

alone_short : (key : List ℕ) (t : Tree) (a b : ℕ) → length key ≤ a → a < 2 ^ 63
    → length (spelling t) ≤ b → length (spelling (alone key t)) ≤ ((a + 21) + (b + 0)) + 2
alone_short key t a b key_le small le =
    dictionary_short (field key t no_fields) ((a + 21) + (b + 0))
    (field_short key t no_fields a b 0 key_le small le nothing_short)

swarm_short : (ps : List Peer) (completions : ℤ) → length ps ≤ 1001 → FitsSigned w64 completions
    → length (spelling (scraped_swarm ps completions)) ≤ 162
swarm_short ps completions le fits =
    dictionary_short (field (codes "complete") (number (pos (complete ps)))
    (field (codes "downloaded") (number completions) (incomplete_field ps no_fields))) 160
    (field_short (codes "complete") (number (pos (complete ps)))
    (field (codes "downloaded") (number completions) (incomplete_field ps no_fields)) 8 23 108
    (omega arith) (omega arith) (complete_short ps le)
    (field_short (codes "downloaded") (number completions) (incomplete_field ps no_fields) 10 23 54
    (omega arith) (omega arith) (number_short completions fits)
    (field_short (codes "incomplete") (number (pos (incomplete ps))) no_fields 10 23 0 (omega arith)
    (omega arith) (incomplete_short ps le) nothing_short)))

pub scrape_short : (hash : List ℕ) (ps : List Peer) (completions : ℤ) → length hash ≡ 20
    → length ps ≤ 1001 → FitsSigned w64 completions
    → length (spelling (scrape_reply hash ps completions)) ≤ 233
scrape_short hash ps completions twenty le fits =
    alone_short (codes "files") (alone hash (scraped_swarm ps completions)) 5 205 (omega arith)
    (omega arith)
    (alone_short hash (scraped_swarm ps completions) 20 162 (omega (arith, twenty)) (omega arith)
    (swarm_short ps completions le fits))
