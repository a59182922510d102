-- What `ReadAsk` reads: `announce HASH A.B.C.D:PORT LEFT EVENT` or `scrape HASH`, with single
-- spaces.
use Rattle.std.specs.Prelude.{ℕ, ◌+◌, ◌-◌, ◌*◌, ◌/◌, ◌%◌, ◌^◌, ◌==◌, ◌&&◌, ◌||◌, nat_le, if◌then◌else◌, pos, List, [], ◌∷◌, length, Option, Some, None, codes}
use Rattle.std.specs.List.{before_first, after_first}
use Rattle.std.specs.Fmt.{decimal}
use Rattle.std.specs.Str.{bytes_eq}
use Rattle.std.specs.Str.Parse.{digits_value}
use Rattle.nodes_tracker.specs.declared.asks.Ask.{Ask}

-- ---- pieces of a line

-- what is before the first of a mark, or all where there is none
abbrev pub front : ℕ → List ℕ → List ℕ
front mark bytes = before_first (λ b. b == mark) bytes

-- what follows it, or nothing
abbrev pub behind : ℕ → List ℕ → List ℕ
behind mark bytes = after_first (λ b. b == mark) bytes

-- the number within bounds whose decimal digits these are, without a leading zero
abbrev pub number_within : ℕ → ℕ → List ℕ → Option ℕ
number_within low high digits =
    if (nat_le low (digits_value 10 digits) && nat_le (digits_value 10 digits) high)
    && bytes_eq digits (decimal (digits_value 10 digits))
    then Some (digits_value 10 digits) else None

-- ---- a hash

-- a lower-case hexadecimal digit
abbrev pub hex_value : ℕ → Option ℕ
hex_value c =
    if nat_le 48 c && nat_le c 57 then Some (c - 48) else
    if nat_le 97 c && nat_le c 102 then Some (c - 87) else None

-- a byte before others
abbrev pub byte_before : Option ℕ → Option ℕ → Option (List ℕ) → Option (List ℕ)
byte_before (Some high) (Some low) (Some bytes) = Some ((16 * high + low) ∷ bytes)
byte_before high low bytes = None

-- the bytes that pairs of digits spell
abbrev pub hex_bytes : List ℕ → Option (List ℕ)
hex_bytes [] = Some []
hex_bytes (high ∷ []) = None
hex_bytes (high ∷ low ∷ digits) = byte_before (hex_value high) (hex_value low) (hex_bytes digits)

-- 40 digits spell a hash
abbrev pub hash_of : List ℕ → Option (List ℕ)
hash_of text = if length text == 40 then hex_bytes text else None

-- ---- a peer

-- a number from 0 to 255
abbrev pub octet : List ℕ → Option ℕ
octet digits = number_within 0 255 digits

-- four bytes of an address, and two of a port, big-endian
abbrev pub six_bytes : Option ℕ → Option ℕ → Option ℕ → Option ℕ → Option ℕ → Option (List ℕ)
six_bytes (Some a) (Some b) (Some c) (Some d) (Some port) =
    Some (a ∷ b ∷ c ∷ d ∷ port / 256 ∷ port % 256 ∷ [])
six_bytes a b c d port = None

-- the peer at `A.B.C.D:PORT`
abbrev pub peer_of : List ℕ → Option (List ℕ)
peer_of text =
    let second = behind 46 text in let third = behind 46 second in let fourth = behind 46 third in
    six_bytes (octet (front 46 text)) (octet (front 46 second)) (octet (front 46 third))
    (octet (front 58 fourth)) (number_within 1 65535 (behind 58 fourth))

-- ---- an ask

-- the action of an event
abbrev pub action_of : List ℕ → Option (List ℕ)
action_of event =
    if bytes_eq event (codes "started") || bytes_eq event (codes "-")
    then Some (codes "announce") else
    if bytes_eq event (codes "completed") then Some (codes "completed") else
    if bytes_eq event (codes "stopped") then Some (codes "stopped") else None

-- an announce, where each of its parts says something
abbrev pub announced : Option (List ℕ) → Option (List ℕ) → Option ℕ → Option (List ℕ) → Option Ask
announced (Some hash) (Some peer) (Some left) (Some action) =
    Some (record { action = action; hash = hash; peer = peer; left = pos left })
announced hash peer left action = None

-- `HASH A.B.C.D:PORT LEFT EVENT`
abbrev pub announce_of : List ℕ → Option Ask
announce_of text =
    let place = behind 32 text in let left = behind 32 place in
    announced (hash_of (front 32 text)) (peer_of (front 32 place))
    (number_within 0 (2 ^ 63 - 1) (front 32 left)) (action_of (behind 32 left))

-- a scrape asks for a hash alone
abbrev pub scraped : Option (List ℕ) → Option Ask
scraped (Some hash) =
    Some (record { action = codes "scrape"; hash = hash; peer = []; left = pos 0 })
scraped None = None

-- `HASH`
abbrev pub scrape_of : List ℕ → Option Ask
scrape_of text = scraped (hash_of text)

-- the ask of a line
abbrev pub ask_of : List ℕ → Option Ask
ask_of line =
    if bytes_eq (front 32 line) (codes "announce") then announce_of (behind 32 line) else
    if bytes_eq (front 32 line) (codes "scrape") then scrape_of (behind 32 line) else None
