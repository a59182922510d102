-- The bytes of a hash, one more.
use Rattle.std.proofs.Common.{◌≡◌, ℕ, ◌+◌, ◌*◌, ◌<◌, ◌≤◌, List, [], ◌∷◌, ◌++◌, length, get_or, drop, Option, Some, None, refl, sym, ap, ◌∙◌, arith, append_assoc}
use Rattle.std.proofs.lemmas.List.{drop_more, drop_all, append-nil}
use Rattle.nodes_tracker.specs.Asks.{hex_value, byte_before, hex_bytes}

-- bytes that were read before others
abbrev pub behind_bytes : List ℕ → Option (List ℕ) → Option (List ℕ)
behind_bytes bytes (Some more) = Some (bytes ++ more)
behind_bytes bytes None = None

nothing_yet : (found : Option (List ℕ)) → behind_bytes [] found ≡ found
nothing_yet (Some more) = refl
nothing_yet None = refl

pub hash_begun : (text : List ℕ) → behind_bytes [] (hex_bytes (drop 0 text)) ≡ hex_bytes text
hash_begun text = nothing_yet (hex_bytes text)

pair : (text : List ℕ) (at : ℕ) → at + 1 < length text → drop at text ≡ get_or text at 0 ∷ get_or text (at + 1) 0
    ∷ drop (at + 2) text
pair text at lt =
    let two : (at + 1) + 1 ≡ at + 2 = omega arith in
    drop_more text at 0 (omega (arith, lt))
    ∙ ap (λ l. get_or text at 0 ∷ l) (drop_more text (at + 1) 0 lt ∙ ap (λ n. get_or text (at + 1) 0 ∷ drop n text) two)

one_byte : (bytes : List ℕ) (high low : ℕ) (found : Option (List ℕ))
    → behind_bytes bytes (byte_before (Some high) (Some low) found) ≡ behind_bytes (bytes ++ (16 * high + low) ∷ [])
    found
one_byte bytes high low (Some more) = ap Some (sym (append_assoc bytes ((16 * high + low) ∷ []) more))
one_byte bytes high low None = refl

pub byte_more : (text bytes : List ℕ) (place high low : ℕ) → 2 * place + 1 < length text
    → behind_bytes bytes (hex_bytes (drop (2 * place) text)) ≡ hex_bytes text
    → Some high ≡ hex_value (get_or text (2 * place) 0) → Some low ≡ hex_value (get_or text (2 * place + 1) 0)
    → behind_bytes (bytes ++ (16 * high + low) ∷ []) (hex_bytes (drop (2 * (place + 1)) text)) ≡ hex_bytes text
byte_more text bytes place high low lt so one two =
    let next : 2 * place + 2 ≡ 2 * (place + 1) = omega arith in
    let rest = hex_bytes (drop (2 * place + 2) text) in
    ap (λ n. behind_bytes (bytes ++ (16 * high + low) ∷ []) (hex_bytes (drop n text))) (sym next)
    ∙ sym (one_byte bytes high low rest)
    ∙ ap (λ h. behind_bytes bytes (byte_before h (Some low) rest)) one
    ∙ ap (λ l. behind_bytes bytes (byte_before (hex_value (get_or text (2 * place) 0)) l rest)) two
    ∙ ap (λ l. behind_bytes bytes (hex_bytes l)) (sym (pair text (2 * place) lt)) ∙ so

no_high : (low : Option ℕ) (found : Option (List ℕ)) → byte_before None low found ≡ None
no_high low found = refl

no_low : (high : Option ℕ) (found : Option (List ℕ)) → byte_before high None found ≡ None
no_low None found = refl
no_low (Some h) found = refl

pub no_byte : (text bytes : List ℕ) (place : ℕ) → 2 * place + 1 < length text
    → behind_bytes bytes (hex_bytes (drop (2 * place) text)) ≡ hex_bytes text
    → byte_before (hex_value (get_or text (2 * place) 0)) (hex_value (get_or text (2 * place + 1) 0))
    (hex_bytes (drop (2 * place + 2) text)) ≡ None → None ≡ hex_bytes text
no_byte text bytes place lt so none =
    sym (ap (behind_bytes bytes) (ap hex_bytes (pair text (2 * place) lt) ∙ none)) ∙ so

pub no_high_byte : (text bytes : List ℕ) (place : ℕ) → 2 * place + 1 < length text
    → behind_bytes bytes (hex_bytes (drop (2 * place) text)) ≡ hex_bytes text
    → None ≡ hex_value (get_or text (2 * place) 0) → None ≡ hex_bytes text
no_high_byte text bytes place lt so none =
    no_byte text bytes place lt so
    (ap (λ h. byte_before h (hex_value (get_or text (2 * place + 1) 0)) (hex_bytes (drop (2 * place + 2) text)))
    (sym none))

pub no_low_byte : (text bytes : List ℕ) (place : ℕ) → 2 * place + 1 < length text
    → behind_bytes bytes (hex_bytes (drop (2 * place) text)) ≡ hex_bytes text
    → None ≡ hex_value (get_or text (2 * place + 1) 0) → None ≡ hex_bytes text
no_low_byte text bytes place lt so none =
    no_byte text bytes place lt so
    (ap (λ l. byte_before (hex_value (get_or text (2 * place) 0)) l (hex_bytes (drop (2 * place + 2) text)))
    (sym none) ∙ no_low (hex_value (get_or text (2 * place) 0)) (hex_bytes (drop (2 * place + 2) text)))

pub hash_ended : (text bytes : List ℕ) → length text ≤ 40
    → behind_bytes bytes (hex_bytes (drop 40 text)) ≡ hex_bytes text → Some bytes ≡ hex_bytes text
hash_ended text bytes le so =
    sym (ap (λ l. behind_bytes bytes (hex_bytes l)) (drop_all 40 text le) ∙ ap Some (append-nil bytes)) ∙ so
