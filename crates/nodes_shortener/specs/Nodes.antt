-- The nodes: their signatures, and what they answer.
use Rattle.std.specs.Prelude.{ℕ, ◌+ℤ◌, if◌then◌else◌, ℤ, pos, List, [], ◌∷◌, ◌++◌, drop, Option, Some, None, codes}
use Rattle.std.specs.Str.{bytes_eq}
use Rattle.flux_values.specs.Texts.{printed_value}
use Rattle.flux_values.specs.Cells.{CellMap}
use Rattle.flux_values.specs.declared.values.Kind.TheVariants as kinds
use Rattle.flux_values.specs.declared.values.Value.{Value}
use Rattle.flux_values.specs.declared.values.Value.TheVariants.{Int, Bool, Text}
use Rattle.flux_values.specs.declared.answers.Answer.{Answer}
use Rattle.flux_values.specs.declared.answers.CallResult.TheVariants.{Good}
use Rattle.flux_values.specs.declared.answers.Mode.TheVariants.{Reader, Writer}
use Rattle.flux_values.specs.declared.meanings.Sig.{Sig}
use Rattle.flux_library.specs.Signatures.{plain_sig, uses}
use Rattle.flux_library.specs.Answers.{ok, fails, emits}
use Rattle.nodes_shortener.specs.Arguments.{first_number, first_text, second_text, fits}
use Rattle.nodes_shortener.specs.Cells.{number_under, text_under}

-- ---- the nodes

-- `Shorten` takes a method and a path, keeps the path without its first byte under the next number, and gives that
-- number; it fails 1 where there is no next number of 64 bits
abbrev pub shorten_sig : Sig
shorten_sig = plain_sig (kinds.Text ∷ kinds.Text ∷ []) (kinds.Int ∷ []) (uses (codes "links") Writer)

abbrev pub kept : ℤ → List ℕ → Answer
kept number url = if fits number then record {
  result = Good (Int number ∷ []);
  puts = record { cell = codes "links"; name = codes "count"; value = Some (Int number) }
      ∷ record { cell = codes "links"; name = printed_value (Int number); value = Some (Text url) } ∷ [];
  emits = [];
} else fails 1

abbrev pub shorten_call : List Value → List CellMap → Answer
shorten_call args cells = kept (number_under cells (codes "count") +ℤ pos 1) (drop 1 (second_text args))

-- `Expand` takes a method and a path, and gives the link under the path without its first byte; it fails 4 where there
-- is none
abbrev pub expand_sig : Sig
expand_sig = plain_sig (kinds.Text ∷ kinds.Text ∷ []) (kinds.Text ∷ []) (uses (codes "links") Reader)

abbrev pub expanded : Option (List ℕ) → Answer
expanded (Some url) = ok (Text url ∷ [])
expanded None = fails 4

abbrev pub expand_call : List Value → List CellMap → Answer
expand_call args cells = expanded (text_under cells (drop 1 (second_text args)))

-- how a reply without a body ends
abbrev pub no_body : List ℕ
no_body = codes "\r\nContent-Length: 0\r\nConnection: close\r\n\r\n"

-- `Redirect` takes a link, and emits the reply that sends a client there
abbrev pub redirect_sig : Sig
redirect_sig = plain_sig (kinds.Text ∷ []) [] []

abbrev pub redirect_call : List Value → Answer
redirect_call args = emits (codes "HTTP/1.1 302 Found\r\nLocation: " ++ first_text args ++ no_body)

-- `Created` takes a number, and emits the reply that names its link
abbrev pub created_sig : Sig
created_sig = plain_sig (kinds.Int ∷ []) [] []

abbrev pub created_call : List Value → Answer
created_call args = emits (codes "HTTP/1.1 201 Created\r\nLocation: /"
    ++ printed_value (Int (first_number args)) ++ no_body)

-- ---- by name

-- the signature of the node that has this name
abbrev pub sig_named : List ℕ → Option Sig
sig_named name =
    if bytes_eq name (codes "Shorten") then Some shorten_sig else
    if bytes_eq name (codes "Expand") then Some expand_sig else
    if bytes_eq name (codes "Redirect") then Some redirect_sig else
    if bytes_eq name (codes "Created") then Some created_sig else None

-- the answer of the node that has this name; of no meaning for other names
abbrev pub answer_named : List ℕ → List Value → List CellMap → Answer
answer_named name =
    if bytes_eq name (codes "Shorten") then shorten_call else
    if bytes_eq name (codes "Expand") then expand_call else
    if bytes_eq name (codes "Redirect") then (λ args cells. redirect_call args) else
    if bytes_eq name (codes "Created") then (λ args cells. created_call args) else
    (λ args cells. ok [])
