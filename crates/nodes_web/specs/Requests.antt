-- Which requests are answered, and what they ask for.
use Rattle.std.specs.Prelude.{◌≡◌, ℕ, ◌==◌, ◌&&◌, ◌||◌, not, nat_le, Bool, false, IsTrue, List, take, codes}
use Rattle.std.specs.List.{count_by, before_first}
use Rattle.std.specs.Str.{bytes_eq, str_eq_ignore_ascii_case}
use Rattle.httparse.specs.Grammar.{Field, RequestHead}
use Rattle.nodes_web.specs.Heads.{IsHeadOf}

-- a path begins with `/`
abbrev pub is_path : List ℕ → Bool
is_path target = bytes_eq (take 1 target) (codes "/")

-- names of fields are compared without regard to case (RFC 9110, section 5.1)
abbrev pub is_host : List ℕ → Bool
is_host name = str_eq_ignore_ascii_case name (codes "Host")

-- how many of the fields are named `Host`
abbrev pub hosts : List Field → ℕ
hosts fields = count_by (λ f. is_host f.name) fields

-- the target is a path, and there is at most one field `Host`, and in HTTP/1.1 just one (RFC 9112,
-- section 3.2)
abbrev pub may_serve : List ℕ → ℕ → ℕ → Bool
may_serve target minor hosts =
    is_path target && nat_le hosts 1 && (not (minor == 1) || nat_le 1 hosts)

abbrev pub is_served : RequestHead → Bool
is_served head = may_serve head.target head.minor (hosts head.fields)

-- the target up to its first `?`
abbrev pub path_of : List ℕ → List ℕ
path_of target = before_first (λ byte. byte == 63) target

-- a method and a path are what a head at the front of the text asks for, which is one to be answered
pub record AreAskedIn (text method path : List ℕ) : Type 0 where
  pub head : RequestHead
  pub front : IsHeadOf text head
  pub served : IsTrue (is_served head)
  pub method_ : method ≡ head.method
  pub path_ : path ≡ path_of head.target

-- no head at the front of the text is one to be answered
abbrev pub AsksNothing : List ℕ → Type 0
AsksNothing text = (head : RequestHead) → IsHeadOf text head → is_served head ≡ false
