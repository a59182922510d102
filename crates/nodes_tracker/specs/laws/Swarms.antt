-- A swarm that is kept reads back as it was, and nothing else is read.
use Rattle.std.proofs.Common.{◌≡◌, ◌<◌, ◌≤◌, ℕ, zero, suc, ◌^◌, ◌&&◌, Bool, true, false, cond, eqb, leb, not, List, [], ◌∷◌, ◌++◌, length, take, drop, pos, negsuc, ℤ, refl, sym, ap, ◌∙◌, arith, append_assoc, length-append}
use Rattle.std.specs.List.{list_all, before_first, prefix_len}
use Rattle.std.specs.Str.{bytes_eq}
use Rattle.std.specs.Str.Parse.{AllDigits, digits_value}
use Rattle.std.specs.Fmt.{decimal}
use Rattle.std.proofs.lemmas.Bool.{leb-true}
use Rattle.std.proofs.lemmas.Bool.Decides.{nat_tests}
use Rattle.std.proofs.lemmas.Fmt.{decimal_digit, decimal_is_IsNumeral}
use Rattle.std.proofs.lemmas.List.{drop_at}
use Rattle.std.proofs.lemmas.Slice.Eq.{bytes_eq-Decides}
use Rattle.std.proofs.lemmas.Str.Parse.{digit_from_value}
use Rattle.bencoding.specs.Trees.{number, spelling, spelled_string, spelled_fields}
use Rattle.nodes_tracker.specs.declared.peers.Peer.{Peer}
use Rattle.nodes_tracker.specs.Swarms.{is_left, are_bytes, is_peer, is_rising, is_swarm, fields_of, kept, kept_peer, first_peer, peers_in, where_kept, swarm_of_text, KeptReadsBack, NothingElseReads}

-- ---- tests

pub and_left : (a b : Bool) → (a && b) ≡ true → a ≡ true
and_left true b e = refl
and_left false b e = absurd cc

pub and_right : (a b : Bool) → (a && b) ≡ true → b ≡ true
and_right true b e = e
and_right false b e = absurd cc

-- the parts of the test of a peer
pub six_bytes : (p : Peer) → is_peer p ≡ true → length p.address ≡ 6
six_bytes p e =
    let six = and_left (eqb (length p.address) 6) (are_bytes p.address)
    (and_left (eqb (length p.address) 6 && are_bytes p.address) (is_left p.left) e) in
    grind (arith, nat_tests)

pub bytes_small : (p : Peer) → is_peer p ≡ true → are_bytes p.address ≡ true
bytes_small p e = and_right (eqb (length p.address) 6) (are_bytes p.address)
    (and_left (eqb (length p.address) 6 && are_bytes p.address) (is_left p.left) e)

pub left_small : (p : Peer) → is_peer p ≡ true → is_left p.left ≡ true
left_small p e = and_right (eqb (length p.address) 6 && are_bytes p.address) (is_left p.left) e

-- the parts of the test of a swarm
pub few_peers : (ps : List Peer) → is_swarm ps ≡ true → length ps ≤ 1000
few_peers ps e = leb-true (length ps) 1000 (and_left (leb (length ps) 1000)
    (list_all is_peer ps && is_rising ps) e)

pub all_peers : (ps : List Peer) → is_swarm ps ≡ true → list_all is_peer ps ≡ true
all_peers ps e = and_left (list_all is_peer ps) (is_rising ps)
    (and_right (leb (length ps) 1000) (list_all is_peer ps && is_rising ps) e)

pub in_order : (ps : List Peer) → is_swarm ps ≡ true → is_rising ps ≡ true
in_order ps e = and_right (list_all is_peer ps) (is_rising ps)
    (and_right (leb (length ps) 1000) (list_all is_peer ps && is_rising ps) e)

-- ---- one peer

key_is : (address : List ℕ) → length address ≡ 6 → spelled_string address ≡ 54 ∷ 58 ∷ address
key_is address six = ap (λ k. (decimal k ++ (58 ∷ [])) ++ address) six
    ∙ ap (λ d. (d ++ (58 ∷ [])) ++ address) (decimal_digit 6 (omega arith))

value_is : (n : ℕ) → spelling (number (pos n)) ≡ 105 ∷ (decimal n ++ (101 ∷ []))
value_is n = refl

-- how its text begins
kept_is : (address rest : List ℕ) (n : ℕ) → length address ≡ 6
    → kept_peer (record { address = address; left = pos n }) ++ rest ≡ 54 ∷ 58
    ∷ (address ++ (105 ∷ (decimal n ++ (101 ∷ rest))))
kept_is address rest n six =
    let one : kept_peer (record { address = address; left = pos n }) ≡ (54 ∷ 58 ∷ address)
    ++ (105 ∷ (decimal n ++ (101 ∷ []))) =
    ap (λ k. k ++ spelling (number (pos n))) (key_is address six) in
    ap (λ l. l ++ rest) one
    ∙ ap (λ l. 54 ∷ 58 ∷ l) (append_assoc address (105 ∷ (decimal n ++ (101 ∷ []))) rest
    ∙ ap (λ l. address ++ (105 ∷ l)) (append_assoc (decimal n) (101 ∷ []) rest))

-- the digits up to an `e`
digits_cut : (ds rest : List ℕ) → AllDigits 10 ds
    → before_first (λ b. eqb b 101) (ds ++ (101 ∷ rest)) ≡ ds
digits_cut [] rest all = refl
digits_cut (d ∷ ds) rest all =
    let r = digit_from_value d all.0 in
    let other : eqb d 101 ≡ false = grind (arith, nat_tests) in
    let k = prefix_len (λ b. not (eqb b 101)) (ds ++ (101 ∷ rest)) in
    let one : prefix_len (λ b. not (eqb b 101)) (d ∷ (ds ++ (101 ∷ rest))) ≡ suc k =
    rw other (omega arith) in
    ap (λ m. take m (d ∷ (ds ++ (101 ∷ rest)))) one ∙ ap (λ l. d ∷ l) (digits_cut ds rest all.1)

first_of_six : (address z : List ℕ) → length address ≡ 6 → take 6 (address ++ z) ≡ address
first_of_six (a ∷ b ∷ c ∷ d ∷ e ∷ f ∷ []) z six = refl
first_of_six [] z six = absurd (omega (arith, six))
first_of_six (a ∷ []) z six = absurd (omega (arith, six))
first_of_six (a ∷ b ∷ []) z six = absurd (omega (arith, six))
first_of_six (a ∷ b ∷ c ∷ []) z six = absurd (omega (arith, six))
first_of_six (a ∷ b ∷ c ∷ d ∷ []) z six = absurd (omega (arith, six))
first_of_six (a ∷ b ∷ c ∷ d ∷ e ∷ []) z six = absurd (omega (arith, six))
first_of_six (a ∷ b ∷ c ∷ d ∷ e ∷ f ∷ g ∷ more) z six = absurd (omega (arith, six))

behind_seven : (address z : List ℕ) → length address ≡ 6 → drop 7 (address ++ (105 ∷ z)) ≡ z
behind_seven address z six =
    ap (drop 7) (sym (append_assoc address (105 ∷ []) z))
    ∙ drop_at (address ++ (105 ∷ [])) z 7 (omega (arith, six, length-append address (105 ∷ [])))

first_is : (address rest : List ℕ) (n : ℕ) → length address ≡ 6 → n < 2 ^ 63
    → first_peer (kept_peer (record { address = address; left = pos n })
    ++ rest) ≡ record { address = address; left = pos n }
first_is address rest n six small =
    let z = decimal n ++ (101 ∷ rest) in
    let numeral = decimal_is_IsNumeral n (omega arith) in
    ap first_peer (kept_is address rest n six)
    ∙ ap (λ a. record {
      address = a;
      left = pos (digits_value 10 (before_first (λ b. eqb b 101) (drop 7 (address ++ (105 ∷ z)))));
    })
    (first_of_six address (105 ∷ z) six)
    ∙ ap (λ l. record {
      address = address;
      left = pos (digits_value 10 (before_first (λ b. eqb b 101) l));
    }) (behind_seven address z six)
    ∙ ap (λ l. record { address = address; left = pos (digits_value 10 l) })
    (digits_cut (decimal n) rest numeral.0.1)
    ∙ ap (λ m. record { address = address; left = pos m }) numeral.1

no_end : (bytes rest : List ℕ) → bytes ≡ 54 ∷ rest → bytes_eq bytes (101 ∷ []) ≡ false
no_end bytes rest e = rw e refl

-- it is the first that is read
peer_read : (address rest : List ℕ) (n most : ℕ) → length address ≡ 6 → n < 2 ^ 63
    → peers_in (suc most) (kept_peer (record { address = address; left = pos n })
    ++ rest) ≡ record { address = address; left = pos n } ∷ peers_in most rest
peer_read address rest n most six small =
    let p : Peer = record { address = address; left = pos n } in
    let bytes = kept_peer p ++ rest in
    let head = no_end bytes (58 ∷ (address ++ (105 ∷ (decimal n ++ (101 ∷ rest)))))
    (kept_is address rest n six) in
    rw head
    (ap (λ q. q ∷ peers_in most (drop (length (kept_peer q)) bytes))
    (first_is address rest n six small)
    ∙ ap (λ l. p ∷ peers_in most l) (drop_at (kept_peer p) rest (length (kept_peer p)) refl))

-- ---- all peers

laid : (p : Peer) (ps : List Peer) (rest : List ℕ) → spelled_fields (fields_of (p ∷ ps))
    ++ rest ≡ kept_peer p ++ (spelled_fields (fields_of ps) ++ rest)
laid p ps rest = simp append_assoc

step_read : (address : List ℕ) (left : ℤ) (rest : List ℕ) (most : ℕ) → length address ≡ 6
    → is_left left ≡ true
    → peers_in (suc most) (kept_peer (record { address = address; left = left })
    ++ rest) ≡ record { address = address; left = left } ∷ peers_in most rest
step_read address (pos n) rest most six small =
    let lt : n < 2 ^ 63 = grind (arith, nat_tests) in peer_read address rest n most six lt
step_read address (negsuc n) rest most six small = absurd cc

peers_read : (ps : List Peer) (most : ℕ) → list_all is_peer ps ≡ true → length ps ≤ most
    → peers_in most (spelled_fields (fields_of ps) ++ (101 ∷ [])) ≡ ps
peers_read [] zero all le = refl
peers_read [] (suc most) all le = refl
peers_read (p ∷ ps) zero all le = absurd (omega (arith, le))
peers_read (p ∷ ps) (suc most) all le =
    let is = and_left (is_peer p) (list_all is_peer ps) all in
    ap (peers_in (suc most)) (laid p ps (101 ∷ []))
    ∙ step_read p.address p.left (spelled_fields (fields_of ps) ++ (101 ∷ [])) most (six_bytes p is)
    (left_small p is)
    ∙ ap (λ qs. p ∷ qs) (peers_read ps most (and_right (is_peer p) (list_all is_peer ps) all)
    (omega arith))

-- a text is no shorter than its peers are many
long_enough : (ps : List Peer) → length ps ≤ length (spelled_fields (fields_of ps))
long_enough [] = omega arith
long_enough (p ∷ ps) =
    let rest = spelling (number p.left) ++ spelled_fields (fields_of ps) in
    let one = length-append (spelled_string p.address) rest in
    let two = length-append (decimal (length p.address) ++ (58 ∷ [])) p.address in
    let key = length-append (decimal (length p.address)) (58 ∷ []) in
    let three = length-append (spelling (number p.left)) (spelled_fields (fields_of ps)) in
    let more = long_enough ps in
    omega arith

same_bytes : (text : List ℕ) → bytes_eq text text ≡ true
same_bytes text = (bytes_eq-Decides text text).1 refl

pub reads_back : KeptReadsBack
reads_back ps is =
    let fields = spelled_fields (fields_of ps) in
    let le = long_enough ps in
    let two = length-append fields (101 ∷ []) in
    ap (where_kept (kept ps)) (peers_read ps (length (kept ps)) (all_peers ps is) (omega arith))
    ∙ rw (is, same_bytes (kept ps)) refl

pub nothing_else : NothingElseReads
nothing_else text none = one (is_swarm ps && bytes_eq text (kept ps)) refl
  where
    ps : List Peer
    ps = peers_in (length text) (drop 1 text)

    one : (b : Bool) → (is_swarm ps && bytes_eq text (kept ps)) ≡ b → cond b ps [] ≡ []
    one false e = refl
    one true e = absurd (none ps (and_left (is_swarm ps) (bytes_eq text (kept ps)) e)
        ((bytes_eq-Decides text (kept ps)).0 (and_right (is_swarm ps) (bytes_eq text (kept ps)) e)))

-- what is read of a text is a swarm
pub read_is_swarm : (text : List ℕ) → is_swarm (swarm_of_text text) ≡ true
read_is_swarm text = one (is_swarm ps && bytes_eq text (kept ps)) refl
  where
    ps : List Peer
    ps = peers_in (length text) (drop 1 text)

    one : (b : Bool) → (is_swarm ps && bytes_eq text (kept ps)) ≡ b → is_swarm (cond b ps []) ≡ true
    one false e = refl
    one true e = and_left (is_swarm ps) (bytes_eq text (kept ps)) e
