-- Replies are short, but for their bodies.
use Rattle.std.proofs.Common.{◌≡◌, ℕ, ◌+◌, ◌^◌, ◌<◌, ◌≤◌, Bool, true, false, List, [], ◌++◌, length, codes, if◌then◌else◌, rules, refl, arith, length-append, eqb, Option, Some, None, unwrap_or}
use Rattle.std.specs.Fmt.{decimal}
use Rattle.std.proofs.lemmas.Fmt.{length-decimal-le}
use Rattle.http.specs.StatusCode.{reason_phrase, status_text}
use Rattle.nodes_web.specs.Names.{type_of_ending}
use Rattle.nodes_web.specs.Replies.{line, allowed, head_of, reply, error_reply}

length-line : (text : List ℕ) → length (line text) ≡ length text + 2
unfolding line
length-line text = length-append text (codes "\r\n")

length-allowed : (code : ℕ) → length (allowed code) ≤ 18
length-allowed code = cases (eqb code 405) refl
  where
    cases : (b : Bool) → eqb code 405 ≡ b → length (allowed code) ≤ 18
    cases true p = rw p (omega (arith, length-line (codes "Allow: GET, HEAD")))
    cases false p = rw p (omega arith)

-- a head with a type of at most 24 bytes
pub length-head_of : (code n : ℕ) (type : List ℕ) → length (status_text code) ≤ 30 → length type ≤ 24 → n < 10 ^ 7 → length (head_of code type n) ≤ 200
unfolding head_of
length-head_of code n type status_short type_short small =
    let a = line (codes "HTTP/1.1 " ++ status_text code) in
    let b = allowed code in
    let c = line (codes "Content-Type: " ++ type) in
    let d = line (codes "Content-Length: " ++ decimal n) in
    let e = line (codes "Connection: close") in
    omega (
      arith,
      length-append ((((a ++ b) ++ c) ++ d) ++ e) (line []),
      length-append (((a ++ b) ++ c) ++ d) e,
      length-append ((a ++ b) ++ c) d,
      length-append (a ++ b) c,
      length-append a b,
      length-line (codes "HTTP/1.1 " ++ status_text code),
      length-append (codes "HTTP/1.1 ") (status_text code),
      length-allowed code,
      length-line (codes "Content-Type: " ++ type),
      length-append (codes "Content-Type: ") type,
      length-line (codes "Content-Length: " ++ decimal n),
      length-append (codes "Content-Length: ") (decimal n),
      length-decimal-le 7 n (omega arith) small (omega arith),
      length-line (codes "Connection: close"),
      length-line [],
    )

either : (b : Bool) (x y : List ℕ) → length x ≤ 24 → length y ≤ 24 → length (if b then x else y) ≤ 24
either true x y p q = p
either false x y p q = q

pub length-type_of_ending : (e : Option (List ℕ)) → length (type_of_ending e) ≤ 24
length-type_of_ending None = omega arith
length-type_of_ending (Some e) = search (rules, either) depth 24

body_or_none : (whole : Bool) (body : List ℕ) → length (if whole then body else []) ≤ length body
body_or_none true body = omega arith
body_or_none false body = omega arith

-- a reply is at most 200 bytes longer than its body
pub length-reply : (code : ℕ) (type body : List ℕ) (whole : Bool) → length (status_text code) ≤ 30 → length type ≤ 24 → length body < 10 ^ 7 → length (reply code type body whole) ≤ 200 + length body
length-reply code type body whole status_short type_short small =
    omega (arith, length-append (head_of code type (length body)) (if whole then body else []), length-head_of code (length body) type status_short type_short small, body_or_none whole body)

pub length-error_reply : (code : ℕ) (whole : Bool) → length (status_text code) ≤ 30 → length (error_reply code whole) ≤ 231
length-error_reply code whole status_short =
    let body = status_text code ++ codes "\n" in
    let size : length body ≤ 31 = omega (arith, length-append (status_text code) (codes "\n")) in
    omega (arith, length-reply code (codes "text/plain") body whole status_short (omega arith) (omega arith))

-- ---- the codes of the library

length-status_text : (code : ℕ) → code < 1000 → length (unwrap_or (reason_phrase code) (codes "<unknown status code>")) ≤ 20 → length (status_text code) ≤ 30
length-status_text code small short =
    let phrase = unwrap_or (reason_phrase code) (codes "<unknown status code>") in
    omega (arith, length-append (decimal code ++ codes " ") phrase, length-append (decimal code) (codes " "), length-decimal-le 3 code (omega arith) small (omega arith))

pub length-status_text-200 : length (status_text 200) ≤ 30
length-status_text-200 = length-status_text 200 (omega arith) (omega arith)

pub length-status_text-400 : length (status_text 400) ≤ 30
length-status_text-400 = length-status_text 400 (omega arith) (omega arith)

pub length-status_text-404 : length (status_text 404) ≤ 30
length-status_text-404 = length-status_text 404 (omega arith) (omega arith)

pub length-status_text-405 : length (status_text 405) ≤ 30
length-status_text-405 = length-status_text 405 (omega arith) (omega arith)
