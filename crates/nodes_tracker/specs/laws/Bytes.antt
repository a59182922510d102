-- Which texts of the tracker are of bytes.
use Rattle.std.proofs.Common.{◌≡◌, ◌<◌, ◌≤◌, ℕ, zero, suc, ◌^◌, true, ltb, List, [], ◌∷◌, ◌++◌, length, map, take, codes, pos, negsuc, ℤ, FitsSigned, refl, ◌∙◌, arith}
use Rattle.std.specs.Int.{w64}
use Rattle.std.specs.List.{list_all, concat}
use Rattle.std.specs.Fmt.{decimal}
use Rattle.std.specs.Str.Parse.{AllDigits}
use Rattle.std.proofs.lemmas.Str.Parse.{digit_from_value}
use Rattle.std.proofs.lemmas.Fmt.{decimal_is_IsNumeral}
use Rattle.std.proofs.lemmas.Bool.Decides.{nat_tests}
use Rattle.std.proofs.lemmas.Int.{ints}
use Rattle.std.proofs.lemmas.List.Folds.{list_all-append}
use Rattle.std.proofs.lemmas.List.Sums.{AllPass-from_list_all, list_all-from_AllPass}
use Rattle.flux_values.specs.declared.values.Value.TheVariants as values
use Rattle.flux_values.specs.Reading.{IsValue}
use Rattle.bencoding.specs.Trees.{Tree, number, string, dictionary, Fields, no_fields, field, spelling, spelled_string, spelled_fields}
use Rattle.nodes_tracker.specs.declared.peers.Peer.{Peer}
use Rattle.nodes_tracker.specs.Swarms.{is_peer, are_bytes}
use Rattle.nodes_tracker.specs.Replies.{complete, incomplete, joined, alone, announce_reply, scraped_swarm, scrape_reply}
use Rattle.nodes_tracker.specs.laws.Swarms.{and_left, and_right, bytes_small}
use Rattle.nodes_tracker.specs.laws.Sizes.{count_fits}

-- ---- texts

pub text_valid : (t : List ℕ) → are_bytes t ≡ true → length t ≤ 65536 → IsValue (values.Text t)
text_valid t bytes le =
    let all = AllPass-from_list_all (λ b. ltb b 256) t bytes in
    (λ k d lt. let h = all k d lt in grind (arith, nat_tests), le)

pub text_bytes : (t : List ℕ) → IsValue (values.Text t) → are_bytes t ≡ true
text_bytes t valid = list_all-from_AllPass (λ b. ltb b 256) t
    (λ k d lt. let h = valid.0 k d lt in grind (arith, nat_tests))

-- ---- spellings

join : (a b : List ℕ) → are_bytes a ≡ true → are_bytes b ≡ true → are_bytes (a ++ b) ≡ true
join a b one two = list_all-append (λ c. ltb c 256) a b ∙ rw (one, two) refl

digits_bytes : (ds : List ℕ) → AllDigits 10 ds → are_bytes ds ≡ true
digits_bytes [] all = refl
digits_bytes (d ∷ ds) all =
    let r = digit_from_value d all.0 in
    let one : ltb d 256 ≡ true = grind (arith, nat_tests) in
    rw one (digits_bytes ds all.1)

decimal_bytes : (n : ℕ) → n < 2 ^ 64 → are_bytes (decimal n) ≡ true
decimal_bytes n lt = digits_bytes (decimal n) ((decimal_is_IsNumeral n lt).0.1)

number_bytes : (z : ℤ) → FitsSigned w64 z → are_bytes (spelling (number z)) ≡ true
number_bytes (pos n) fits = join (decimal n) (101 ∷ []) (decimal_bytes n (omega (arith, ints))) refl
number_bytes (negsuc n) fits =
    join (decimal (suc n)) (101 ∷ []) (decimal_bytes (suc n) (omega (arith, ints))) refl

string_bytes : (s : List ℕ) → length s < 2 ^ 63 → are_bytes s ≡ true
    → are_bytes (spelled_string s) ≡ true
string_bytes s lt bytes = join (decimal (length s) ++ (58 ∷ [])) s
    (join (decimal (length s)) (58 ∷ []) (decimal_bytes (length s) (omega (arith, lt))) refl) bytes

field_bytes : (key : List ℕ) (t : Tree) (fs : Fields) → length key < 2 ^ 63 → are_bytes key ≡ true
    → are_bytes (spelling t) ≡ true → are_bytes (spelled_fields fs) ≡ true
    → are_bytes (spelled_fields (field key t fs)) ≡ true
field_bytes key t fs lt key_bytes value more =
    join (spelled_string key) (spelling t ++ spelled_fields fs) (string_bytes key lt key_bytes)
    (join (spelling t) (spelled_fields fs) value more)

dictionary_bytes : (fs : Fields) → are_bytes (spelled_fields fs) ≡ true
    → are_bytes (spelling (dictionary fs)) ≡ true
dictionary_bytes fs bytes = join (spelled_fields fs) (101 ∷ []) bytes refl

-- ---- replies

joined_bytes : (ps : List Peer) (n : ℕ) → list_all is_peer ps ≡ true
    → are_bytes (concat (map (λ p. p.address) (take n ps))) ≡ true
joined_bytes [] zero all = refl
joined_bytes [] (suc n) all = refl
joined_bytes (p ∷ ps) zero all = refl
joined_bytes (p ∷ ps) (suc n) all =
    join p.address (concat (map (λ q. q.address) (take n ps)))
    (bytes_small p (and_left (is_peer p) (list_all is_peer ps) all))
    (joined_bytes ps n (and_right (is_peer p) (list_all is_peer ps) all))

pub shown_bytes : (ps : List Peer) → list_all is_peer ps ≡ true → are_bytes (joined ps) ≡ true
shown_bytes ps all = joined_bytes ps 50 all

-- a number under a key, before other fields
counted_bytes : (key : List ℕ) (z : ℤ) (fs : Fields) → length key < 2 ^ 63 → are_bytes key ≡ true
    → FitsSigned w64 z → are_bytes (spelled_fields fs) ≡ true
    → are_bytes (spelled_fields (field key (number z) fs)) ≡ true
counted_bytes key z fs lt key_bytes fits more =
    field_bytes key (number z) fs lt key_bytes (number_bytes z fits) more

pub announce_bytes : (ps : List Peer) (shown : List ℕ) → complete ps < 2 ^ 63
    → incomplete ps < 2 ^ 63 → length shown ≤ 300 → are_bytes shown ≡ true
    → are_bytes (spelling (announce_reply ps shown)) ≡ true
announce_bytes ps shown done others le bytes =
    let peers = field (codes "peers") (string shown) no_fields in
    let interval = field (codes "interval") (number (pos 1800)) peers in
    let rest = field (codes "incomplete") (number (pos (incomplete ps))) interval in
    dictionary_bytes (field (codes "complete") (number (pos (complete ps))) rest)
    (counted_bytes (codes "complete") (pos (complete ps)) rest (omega arith) refl
    (count_fits (complete ps) done)
    (counted_bytes (codes "incomplete") (pos (incomplete ps)) interval (omega arith) refl
    (count_fits (incomplete ps) others)
    (counted_bytes (codes "interval") (pos 1800) peers (omega arith) refl
    (count_fits 1800 (omega arith))
    (field_bytes (codes "peers") (string shown) no_fields (omega arith) refl
    (string_bytes shown (omega (arith, le)) bytes) refl))))

alone_bytes : (key : List ℕ) (t : Tree) → length key < 2 ^ 63 → are_bytes key ≡ true
    → are_bytes (spelling t) ≡ true → are_bytes (spelling (alone key t)) ≡ true
alone_bytes key t lt key_bytes value =
    dictionary_bytes (field key t no_fields) (field_bytes key t no_fields lt key_bytes value refl)

pub scrape_bytes : (hash : List ℕ) (ps : List Peer) (completions : ℤ) → length hash ≡ 20
    → are_bytes hash ≡ true → complete ps < 2 ^ 63 → incomplete ps < 2 ^ 63
    → FitsSigned w64 completions
    → are_bytes (spelling (scrape_reply hash ps completions)) ≡ true
scrape_bytes hash ps completions twenty bytes done others fits =
    let last = field (codes "incomplete") (number (pos (incomplete ps))) no_fields in
    let rest = field (codes "downloaded") (number completions) last in
    alone_bytes (codes "files") (alone hash (scraped_swarm ps completions)) (omega arith) refl
    (alone_bytes hash (scraped_swarm ps completions) (omega (arith, twenty)) bytes
    (dictionary_bytes (field (codes "complete") (number (pos (complete ps))) rest)
    (counted_bytes (codes "complete") (pos (complete ps)) rest (omega arith) refl
    (count_fits (complete ps) done)
    (counted_bytes (codes "downloaded") completions last (omega arith) refl fits
    (counted_bytes (codes "incomplete") (pos (incomplete ps)) no_fields (omega arith) refl
    (count_fits (incomplete ps) others) refl)))))
