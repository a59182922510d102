-- The bytes of replies (RFC 9112, sections 2.1, 4 and 5).
use Rattle.std.specs.Prelude.{ℕ, ◌==◌, if◌then◌else◌, Bool, List, [], ◌++◌, length, codes}
use Rattle.std.specs.Fmt.{decimal}
use Rattle.http.specs.StatusCode.{status_text}

-- a line of a head
unfoldable pub line : List ℕ → List ℕ
line text = text ++ codes "\r\n"

-- the methods that are allowed, which a reply 405 names (RFC 9110, sections 10.2.1 and 15.5.6)
abbrev pub allowed : ℕ → List ℕ
allowed code = if code == 405 then line (codes "Allow: GET, HEAD") else []

-- a reply's head, by its code, the type of its body and the body's length; the code's phrase is that
-- of the crate `http`
unfoldable pub head_of : ℕ → List ℕ → ℕ → List ℕ
head_of code type size =
    line (codes "HTTP/1.1 " ++ status_text code) ++ allowed code
    ++ line (codes "Content-Type: " ++ type)
    ++ line (codes "Content-Length: " ++ decimal size)
    ++ line (codes "Connection: close") ++ line []

-- a reply with its body, or with all of its head and no body (RFC 9110, section 9.3.2)
abbrev pub reply : ℕ → List ℕ → List ℕ → Bool → List ℕ
reply code type body whole = head_of code type (length body) ++ (if whole then body else [])

-- a reply whose body is its code and phrase
abbrev pub error_reply : ℕ → Bool → List ℕ
error_reply code whole = reply code (codes "text/plain") (status_text code ++ codes "\n") whole
