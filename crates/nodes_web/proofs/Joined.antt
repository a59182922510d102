-- Replies are joined from their parts.
use Rattle.std.proofs.Common.{◌≡◌, ℕ, Bool, List, [], ◌++◌, Result, Ok, Err, IfOk, codes, ap, subst, ◌∙◌, append_assoc}
use Rattle.std.specs.Prelude.{OnOk}
use Rattle.std.specs.Fmt.{decimal}
use Rattle.http.specs.StatusCode.{status_text}
use Rattle.nodes_web.specs.Replies.{line, allowed, head_of, reply, error_reply}

regroup : (o a b c d e f : List ℕ) → (((((o ++ a) ++ b) ++ c) ++ d) ++ e) ++ f ≡ o ++ (((((a ++ b) ++ c) ++ d) ++ e) ++ f)
regroup o a b c d e f = simp append_assoc

-- a head is the lines that were added one after the other
pub head_joined : {E : Type 0} (r : Result (Unit {0}) E) (o status kind size a b c d e f : List ℕ) (code n : ℕ)
    → status ≡ status_text code → size ≡ decimal n
    → a ≡ o ++ line (codes "HTTP/1.1 " ++ status) → b ≡ a ++ allowed code
    → c ≡ b ++ line (codes "Content-Type: " ++ kind) → d ≡ c ++ line (codes "Content-Length: " ++ size)
    → e ≡ d ++ line (codes "Connection: close") → OnOk r (f ≡ e ++ line [])
    → OnOk r (f ≡ o ++ head_of code kind n)
unfolding head_of
head_joined (Err x) o status kind size a b c d e f code n is_status is_size pa pb pc pd pe pf = tt
head_joined (Ok u) o status kind size a b c d e f code n is_status is_size pa pb pc pd pe pf =
    pf ∙ ap (λ t. t ++ line [])
    (pe ∙ ap (λ t. t ++ line (codes "Connection: close"))
    (pd ∙ ap (λ t. c ++ line (codes "Content-Length: " ++ t)) is_size
    ∙ ap (λ t. t ++ line (codes "Content-Length: " ++ decimal n))
    (pc ∙ ap (λ t. t ++ line (codes "Content-Type: " ++ kind))
    (pb ∙ ap (λ t. t ++ allowed code) (pa ∙ ap (λ t. o ++ line (codes "HTTP/1.1 " ++ t)) is_status)))))
    ∙ regroup o (line (codes "HTTP/1.1 " ++ status_text code)) (allowed code) (line (codes "Content-Type: " ++ kind)) (line (codes "Content-Length: " ++ decimal n)) (line (codes "Connection: close")) (line [])

-- the body of an error is its code and phrase
pub error_joined : {E : Type 0} (r : Result (List ℕ) E) (given body copied status : List ℕ) (code : ℕ) (whole : Bool)
    → given ≡ body → body ≡ copied ++ codes "\n" → copied ≡ status → status ≡ status_text code
    → IfOk r (λ bytes. bytes ≡ reply code (codes "text/plain") given whole) → IfOk r (λ bytes. bytes ≡ error_reply code whole)
error_joined r given body copied status code whole is_body is_joined is_copied is_status replied =
    subst (λ (b : List ℕ). IfOk r (λ bytes. bytes ≡ reply code (codes "text/plain") b whole))
    (is_body ∙ is_joined ∙ ap (λ (t : List ℕ). t ++ codes "\n") (is_copied ∙ is_status)) replied
