-- The names of documents, and their types.
use Rattle.std.specs.Prelude.{ℕ, ◌-◌, ◌||◌, ◌==◌, if◌then◌else◌, Bool, List, [], ◌∷◌, ◌++◌, drop, length, Option, Some, None, codes}
use Rattle.std.specs.Option.{option_or}
use Rattle.std.specs.Str.{bytes_eq}

-- a path of a folder ends in `/`
abbrev pub is_folder : List ℕ → Bool
is_folder path = bytes_eq (drop (length path - 1) path) (codes "/")

-- the name that a path asks for: what follows its first byte, and for a folder its `index.html`
abbrev pub name_of : List ℕ → List ℕ
name_of path = drop 1 path ++ (if is_folder path then codes "index.html" else [])

-- what follows the last `.`, where there is one
abbrev pub ending : List ℕ → Option (List ℕ)
ending [] = None
ending (byte ∷ name) = option_or (ending name) (if byte == 46 then Some name else None)

-- the type of a name's ending (RFC 9110, section 8.3.1)
abbrev pub type_of_ending : Option (List ℕ) → List ℕ
type_of_ending None = codes "application/octet-stream"
type_of_ending (Some ending) =
    if bytes_eq ending (codes "html") || bytes_eq ending (codes "htm") then codes "text/html" else
    if bytes_eq ending (codes "txt") then codes "text/plain" else
    if bytes_eq ending (codes "css") then codes "text/css" else
    if bytes_eq ending (codes "js") then codes "text/javascript" else
    if bytes_eq ending (codes "json") then codes "application/json" else
    if bytes_eq ending (codes "svg") then codes "image/svg+xml" else
    if bytes_eq ending (codes "png") then codes "image/png" else
    if bytes_eq ending (codes "jpg") || bytes_eq ending (codes "jpeg") then codes "image/jpeg" else
    if bytes_eq ending (codes "gif") then codes "image/gif" else codes "application/octet-stream"

abbrev pub type_of : List ℕ → List ℕ
type_of name = type_of_ending (ending name)
