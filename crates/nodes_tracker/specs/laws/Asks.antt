-- What is read of a line are values.
use Rattle.std.proofs.Common.{◌≡◌, ◌<◌, ◌≤◌, ℕ, ◌+◌, ◌-◌, ◌*◌, ◌/◌, ◌%◌, ◌^◌, ◌&&◌, ◌||◌, Bool, true, false, cond, eqb, leb, ltb, List, [], ◌∷◌, length, codes, Option, Some, None, IfSome, FitsSigned, refl, subst, arith}
use Rattle.std.specs.Int.{w64}
use Rattle.std.specs.Fmt.{decimal}
use Rattle.std.specs.Str.{bytes_eq}
use Rattle.std.specs.Str.Parse.{digits_value}
use Rattle.std.proofs.lemmas.Bool.{leb-true}
use Rattle.std.proofs.lemmas.Bool.Decides.{nat_tests}
use Rattle.std.proofs.lemmas.Int.{ints}
use Rattle.flux_values.specs.declared.values.Value.TheVariants as values
use Rattle.flux_values.specs.Reading.{IsValue}
use Rattle.nodes_tracker.specs.declared.asks.Ask.{Ask}
use Rattle.nodes_tracker.specs.Swarms.{are_bytes}
use Rattle.nodes_tracker.specs.Asks.{front, behind, number_within, hex_value, byte_before, hex_bytes, hash_of, octet, six_bytes, peer_of, action_of, announced, announce_of, scraped, scrape_of, ask_of}
use Rattle.nodes_tracker.specs.laws.Swarms.{and_left, and_right}
use Rattle.nodes_tracker.specs.laws.Bytes.{text_valid}

-- an ask's parts are values
pub record IsAsk (ask : Ask) : Type 0 where
  pub action_ : IsValue (values.Text ask.action)
  pub hash_ : IsValue (values.Text ask.hash)
  pub peer_ : IsValue (values.Text ask.peer)
  pub left_ : FitsSigned w64 ask.left

-- ---- numbers

within_high : (low high : ℕ) (digits : List ℕ)
    → IfSome (number_within low high digits) (λ n. n ≤ high)
within_high low high digits = one ((leb low n && leb n high) && bytes_eq digits (decimal n)) refl
  where
    n : ℕ
    n = digits_value 10 digits

    one : (b : Bool) → ((leb low n && leb n high) && bytes_eq digits (decimal n)) ≡ b
        → IfSome (cond b (Some n) None) (λ m. m ≤ high)
    one true e = leb-true n high (and_right (leb low n) (leb n high)
        (and_left (leb low n && leb n high) (bytes_eq digits (decimal n)) e))
    one false e = tt

-- ---- a hash

hex_small : (c : ℕ) → IfSome (hex_value c) (λ v. v < 16)
hex_small c = one (leb 48 c && leb c 57) refl (leb 97 c && leb c 102) refl
  where
    one : (a : Bool) → (leb 48 c && leb c 57) ≡ a → (b : Bool) → (leb 97 c && leb c 102) ≡ b
        → IfSome (cond a (Some (c - 48)) (cond b (Some (c - 87)) None)) (λ v. v < 16)
    one true e b f = let le = leb-true c 57 (and_right (leb 48 c) (leb c 57) e) in omega (arith, le)
    one false e true f =
        let le = leb-true c 102 (and_right (leb 97 c) (leb c 102) f) in omega (arith, le)
    one false e false f = tt

-- so many bytes or fewer
record AreSome (n : ℕ) (bytes : List ℕ) : Type 0 where
  bytes_ : are_bytes bytes ≡ true
  short : length bytes ≤ n

before_some : (high low : Option ℕ) (bytes : Option (List ℕ)) (n : ℕ) → IfSome high (λ v. v < 16)
    → IfSome low (λ v. v < 16) → IfSome bytes (AreSome n)
    → IfSome (byte_before high low bytes) (AreSome (n + 1))
before_some (Some h) (Some l) (Some bs) n one two more =
    let byte : ltb (16 * h + l) 256 ≡ true = grind (arith, nat_tests) in
    record { bytes_ = rw byte more.bytes_; short = omega (arith, more.short) }
before_some (Some h) (Some l) None n one two more = tt
before_some (Some h) None bs n one two more = tt
before_some None l bs n one two more = tt

hex_some : (ds : List ℕ) (n : ℕ) → length ds ≤ 2 * n → IfSome (hex_bytes ds) (AreSome n)
hex_some [] n le = record { bytes_ = refl; short = omega arith }
hex_some (d ∷ []) n le = tt
hex_some (d ∷ e ∷ ds) n le =
    let more = hex_some ds (n - 1) (omega (arith, le)) in
    subst (λ m. IfSome (hex_bytes (d ∷ e ∷ ds)) (AreSome m)) (omega (arith, le))
    (before_some (hex_value d) (hex_value e) (hex_bytes ds) (n - 1) (hex_small d) (hex_small e)
    more)

some_valid : (found : Option (List ℕ)) (n : ℕ) → n ≤ 65536 → IfSome found (AreSome n)
    → IfSome found (λ bytes. IsValue (values.Text bytes))
some_valid None n le some = tt
some_valid (Some bytes) n le some = text_valid bytes some.bytes_ (omega (arith, some.short, le))

hash_valid : (text : List ℕ) → IfSome (hash_of text) (λ hash. IsValue (values.Text hash))
hash_valid text = one (eqb (length text) 40) refl
  where
    one : (b : Bool) → eqb (length text) 40 ≡ b
        → IfSome (cond b (hex_bytes text) None) (λ hash. IsValue (values.Text hash))
    one true e =
        let forty : length text ≡ 40 = grind (arith, nat_tests) in
        some_valid (hex_bytes text) 20 (omega arith) (hex_some text 20 (omega (arith, forty)))
    one false e = tt

-- ---- a peer

six_valid : (a b c d port : Option ℕ) → IfSome a (λ n. n ≤ 255) → IfSome b (λ n. n ≤ 255)
    → IfSome c (λ n. n ≤ 255) → IfSome d (λ n. n ≤ 255) → IfSome port (λ n. n ≤ 65535)
    → IfSome (six_bytes a b c d port) (AreSome 6)
six_valid (Some a) (Some b) (Some c) (Some d) (Some port) a_ b_ c_ d_ port_ =
    let one : ltb a 256 ≡ true = grind (arith, nat_tests) in
    let two : ltb b 256 ≡ true = grind (arith, nat_tests) in
    let three : ltb c 256 ≡ true = grind (arith, nat_tests) in
    let four : ltb d 256 ≡ true = grind (arith, nat_tests) in
    let high_ : port / 256 < 256 = omega arith in
    let low_ : port % 256 < 256 = omega arith in
    let five : ltb (port / 256) 256 ≡ true = grind (arith, nat_tests) in
    let six : ltb (port % 256) 256 ≡ true = grind (arith, nat_tests) in
    record { bytes_ = rw (one, two, three, four, five, six) refl; short = omega arith }
six_valid (Some a) (Some b) (Some c) (Some d) None a_ b_ c_ d_ port_ = tt
six_valid (Some a) (Some b) (Some c) None port a_ b_ c_ d_ port_ = tt
six_valid (Some a) (Some b) None d port a_ b_ c_ d_ port_ = tt
six_valid (Some a) None c d port a_ b_ c_ d_ port_ = tt
six_valid None b c d port a_ b_ c_ d_ port_ = tt

peer_valid : (text : List ℕ) → IfSome (peer_of text) (λ peer. IsValue (values.Text peer))
peer_valid text =
    let second = behind 46 text in let third = behind 46 second in let fourth = behind 46 third in
    some_valid (peer_of text) 6 (omega arith)
    (six_valid (octet (front 46 text)) (octet (front 46 second)) (octet (front 46 third))
    (octet (front 58 fourth)) (number_within 1 65535 (behind 58 fourth))
    (within_high 0 255 (front 46 text)) (within_high 0 255 (front 46 second))
    (within_high 0 255 (front 46 third)) (within_high 0 255 (front 58 fourth))
    (within_high 1 65535 (behind 58 fourth)))

-- ---- an ask

action_valid : (event : List ℕ) → IfSome (action_of event) (λ action. IsValue (values.Text action))
action_valid event = one (bytes_eq event (codes "started") || bytes_eq event (codes "-"))
    (bytes_eq event (codes "completed")) (bytes_eq event (codes "stopped"))
  where
    one : (a b c : Bool) → IfSome (cond a (Some (codes "announce"))
        (cond b (Some (codes "completed")) (cond c (Some (codes "stopped")) None)))
        (λ action. IsValue (values.Text action))
    one true b c = text_valid (codes "announce") refl (omega arith)
    one false true c = text_valid (codes "completed") refl (omega arith)
    one false false true = text_valid (codes "stopped") refl (omega arith)
    one false false false = tt

announced_valid : (hash peer : Option (List ℕ)) (left : Option ℕ) (action : Option (List ℕ))
    → IfSome hash (λ t. IsValue (values.Text t)) → IfSome peer (λ t. IsValue (values.Text t))
    → IfSome left (λ n. n ≤ 2 ^ 63 - 1) → IfSome action (λ t. IsValue (values.Text t))
    → IfSome (announced hash peer left action) IsAsk
announced_valid (Some h) (Some p) (Some l) (Some a) h_ p_ l_ a_ =
    record {
      action_ = a_;
      hash_ = h_;
      peer_ = p_;
      left_ = let lt : l < 2 ^ 63 = omega (arith, l_) in omega (arith, ints);
    }
announced_valid (Some h) (Some p) (Some l) None h_ p_ l_ a_ = tt
announced_valid (Some h) (Some p) None a h_ p_ l_ a_ = tt
announced_valid (Some h) None l a h_ p_ l_ a_ = tt
announced_valid None p l a h_ p_ l_ a_ = tt

scraped_valid : (hash : Option (List ℕ)) → IfSome hash (λ t. IsValue (values.Text t))
    → IfSome (scraped hash) IsAsk
scraped_valid (Some h) h_ = record {
  action_ = text_valid (codes "scrape") refl (omega arith);
  hash_ = h_;
  peer_ = text_valid [] refl (omega arith);
  left_ = omega (arith, ints);
}
scraped_valid None h_ = tt

pub ask_valid : (line : List ℕ) → IfSome (ask_of line) IsAsk
ask_valid line =
    one (bytes_eq (front 32 line) (codes "announce")) (bytes_eq (front 32 line) (codes "scrape"))
  where
    rest : List ℕ
    rest = behind 32 line

    one : (a b : Bool) → IfSome (cond a (announce_of rest) (cond b (scrape_of rest) None)) IsAsk
    one true b =
        let place = behind 32 rest in let left = behind 32 place in
        announced_valid (hash_of (front 32 rest)) (peer_of (front 32 place))
        (number_within 0 (2 ^ 63 - 1) (front 32 left)) (action_of (behind 32 left))
        (hash_valid (front 32 rest)) (peer_valid (front 32 place))
        (within_high 0 (2 ^ 63 - 1) (front 32 left)) (action_valid (behind 32 left))
    one false true = scraped_valid (hash_of rest) (hash_valid rest)
    one false false = tt
