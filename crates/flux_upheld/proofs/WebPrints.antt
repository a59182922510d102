-- The answers of `Web` can be printed.
use Rattle.std.proofs.Common.{◌≡◌, ◌<◌, ◌≤◌, ◌^◌, ℕ, Bool, true, false, ◌&&◌, ◌||◌, cond, eqb, ltb, not, is_some, List, [], ◌∷◌, ◌++◌, length, codes, drop, Option, Some, None, IfSome, unwrap_or, if◌then◌else◌, refl, arith, rules, length-append}
use Rattle.std.specs.FinMap.{get}
use Rattle.std.specs.Fmt.{decimal}
use Rattle.http.specs.StatusCode.{reason_phrase, status_text}
use Rattle.flux_values.specs.declared.values.Value.{Value}
use Rattle.flux_values.specs.declared.values.Value.TheVariants as values
use Rattle.flux_values.specs.declared.answers.Answer.{Answer}
use Rattle.flux_library.specs.Answers.{the_text, ok, fails, emits}
use Rattle.flux_library.specs.Documents.{DocMap, IsBody}
use Rattle.nodes_tracker.specs.Swarms.{are_bytes}
use Rattle.nodes_web.specs.declared.nodes.Node.{Node}
use Rattle.nodes_web.specs.declared.nodes.Node.TheVariants as nodes
use Rattle.nodes_web.specs.Heads.{Front, headed, headless}
use Rattle.nodes_web.specs.Requests.{is_path, is_served, path_of}
use Rattle.nodes_web.specs.Names.{name_of, type_of, type_of_ending, ending}
use Rattle.nodes_web.specs.Replies.{line, allowed, head_of, reply, error_reply}
use Rattle.nodes_web.specs.laws.Replies.{length-status_text-400, length-status_text-404, length-status_text-405}
use Rattle.nodes_web.specs.Nodes.{sig_named}
use Rattle.nodes_web.specs.Calls.{first_text, two, read_front, look_up_call, sent, refused, gets_body, begins_otherwise, answer_named}
use Rattle.nodes_web.specs.steps.Deciding.{front_of}
use Rattle.flux_upheld.specs.Printable.{IsPrintable, AnswersPrintably}
use Rattle.flux_upheld.proofs.Printing.{bytes-all, all-bytes, both-bytes, decimal-bytes, prints-values, prints-failure, prints-bytes, prints-either}

-- ---- replies

line-bytes : (text : List ℕ) → are_bytes text ≡ true → are_bytes (line text) ≡ true
unfolding line
line-bytes text bytes = both-bytes text (codes "\r\n") bytes refl

allowed-bytes : (code : ℕ) → are_bytes (allowed code) ≡ true
allowed-bytes code = by (eqb code 405)
  where
    by : (b : Bool) → are_bytes (if b then line (codes "Allow: GET, HEAD") else []) ≡ true
    by true = line-bytes (codes "Allow: GET, HEAD") refl
    by false = refl

head-bytes : (code : ℕ) (type : List ℕ) (size : ℕ) → are_bytes (status_text code) ≡ true → are_bytes type ≡ true → size < 2 ^ 64 → are_bytes (head_of code type size) ≡ true
unfolding head_of
head-bytes code type size status type_ small =
    let a = line (codes "HTTP/1.1 " ++ status_text code) in
    let b = allowed code in
    let c = line (codes "Content-Type: " ++ type) in
    let d = line (codes "Content-Length: " ++ decimal size) in
    let e = line (codes "Connection: close") in
    both-bytes ((((a ++ b) ++ c) ++ d) ++ e) (line [])
    (both-bytes (((a ++ b) ++ c) ++ d) e
    (both-bytes ((a ++ b) ++ c) d
    (both-bytes (a ++ b) c
    (both-bytes a b (line-bytes (codes "HTTP/1.1 " ++ status_text code) (both-bytes (codes "HTTP/1.1 ") (status_text code) refl status)) (allowed-bytes code))
    (line-bytes (codes "Content-Type: " ++ type) (both-bytes (codes "Content-Type: ") type refl type_)))
    (line-bytes (codes "Content-Length: " ++ decimal size) (both-bytes (codes "Content-Length: ") (decimal size) refl (decimal-bytes size small))))
    (line-bytes (codes "Connection: close") refl))
    (line-bytes [] refl)

body-bytes : (whole : Bool) (body : List ℕ) → are_bytes body ≡ true → are_bytes (if whole then body else []) ≡ true
body-bytes true body bytes = bytes
body-bytes false body bytes = refl

reply-bytes : (code : ℕ) (type body : List ℕ) (whole : Bool) → are_bytes (status_text code) ≡ true → are_bytes type ≡ true → are_bytes body ≡ true → length body < 2 ^ 64 → are_bytes (reply code type body whole) ≡ true
reply-bytes code type body whole status type_ bytes small =
    both-bytes (head_of code type (length body)) (if whole then body else []) (head-bytes code type (length body) status type_ small) (body-bytes whole body bytes)

status-bytes : (code : ℕ) → code < 2 ^ 64 → are_bytes (unwrap_or (reason_phrase code) (codes "<unknown status code>")) ≡ true → are_bytes (status_text code) ≡ true
status-bytes code lt phrase =
    both-bytes (decimal code ++ codes " ") (unwrap_or (reason_phrase code) (codes "<unknown status code>")) (both-bytes (decimal code) (codes " ") (decimal-bytes code lt) refl) phrase

either-bytes : (b : Bool) (x y : List ℕ) → are_bytes x ≡ true → are_bytes y ≡ true → are_bytes (if b then x else y) ≡ true
either-bytes true x y p q = p
either-bytes false x y p q = q

type-bytes : (e : Option (List ℕ)) → are_bytes (type_of_ending e) ≡ true
type-bytes None = refl
type-bytes (Some e) = search (rules, either-bytes) depth 24

-- ---- answers

read-prints : {text : List ℕ} (front : Front text) → IsPrintable (read_front front)
read-prints (headless none) = prints-failure 1
read-prints (headed head is) = prints-either (is_served head) (two head.method (path_of head.target)) (fails 1) (prints-values (values.Text head.method ∷ values.Text (path_of head.target) ∷ [])) (prints-failure 1)

look-prints : (docs : DocMap) (method path : List ℕ) → IsPrintable (look_up_call docs method path)
look-prints docs method path =
    let found = two method (name_of path) in
    let kept = if is_some (get docs.named (name_of path)) then found else fails 4 in
    let short = if ltb 65536 (length (name_of path)) then fails 5 else kept in
    prints-either (not (is_path path)) (fails 4) short (prints-failure 4)
    (prints-either (ltb 65536 (length (name_of path))) (fails 5) kept (prints-failure 5)
    (prints-either (is_some (get docs.named (name_of path))) found (fails 4) (prints-values (values.Text method ∷ values.Text (name_of path) ∷ [])) (prints-failure 4)))

sent-prints : (name : List ℕ) (whole : Bool) (found : Option (List ℕ)) → IfSome found IsBody → IsPrintable (sent name whole found)
sent-prints name whole None is = prints-failure 4
sent-prints name whole (Some body) is =
    let text = reply 200 (type_of name) body whole in
    prints-bytes text (bytes-all text (reply-bytes 200 (type_of name) body whole (status-bytes 200 (omega arith) refl) (type-bytes (ending name)) (all-bytes body is.0) (omega (arith, is.1))))

refused-prints : (code : ℕ) (whole : Bool) → are_bytes (status_text code) ≡ true → length (status_text code) ≤ 30 → IsPrintable (refused code whole)
refused-prints code whole status short =
    let body = status_text code ++ codes "\n" in
    let text = reply code (codes "text/plain") body whole in
    let size : length body ≤ 31 = omega (arith, length-append (status_text code) (codes "\n")) in
    prints-bytes text (bytes-all text (reply-bytes code (codes "text/plain") body whole status refl (both-bytes (status_text code) (codes "\n") status refl) (omega (arith, size))))

pub web-prints : (docs : DocMap) (node : Option Node) → AnswersPrintably (sig_named node) (λ args cells. answer_named docs node args)
web-prints docs None = tt
web-prints docs (Some nodes.Accept) = λ args cells fits_ all held. let h = fits_.role in absurd cc
web-prints docs (Some nodes.ReadRequest) = λ args cells fits_ all held. read-prints (front_of (the_text args))
web-prints docs (Some nodes.LookUp) = λ args cells fits_ all held. look-prints docs (first_text args) (the_text args)
web-prints docs (Some nodes.SendDoc) = λ args cells fits_ all held. sent-prints (the_text args) true (get docs.named (the_text args)) (docs.bodies (the_text args))
web-prints docs (Some nodes.SendHead) = λ args cells fits_ all held. sent-prints (the_text args) false (get docs.named (the_text args)) (docs.bodies (the_text args))
web-prints docs (Some nodes.NotFound) = λ args cells fits_ all held. refused-prints 404 (gets_body (first_text args)) (status-bytes 404 (omega arith) refl) length-status_text-404
web-prints docs (Some nodes.NotAllowed) = λ args cells fits_ all held. refused-prints 405 (gets_body (first_text args)) (status-bytes 405 (omega arith) refl) length-status_text-405
web-prints docs (Some nodes.BadRequest) = λ args cells fits_ all held. refused-prints 400 (begins_otherwise (the_text args)) (status-bytes 400 (omega arith) refl) length-status_text-400
