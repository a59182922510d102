-- What each node answers.
use Rattle.std.specs.Prelude.{ℕ, ◌+ℤ◌, ◌-ℤ◌, ◌==◌, ◌||◌, nat_lt, nat_le, not, if◌then◌else◌, true, false, ℤ, pos, int_lt, List, [], ◌∷◌, ◌++◌, length, Option, Some, None, codes}
use Rattle.std.specs.FinMap.{get}
use Rattle.flux_values.specs.Cells.{CellMap}
use Rattle.flux_values.specs.declared.texts.TheConstants.{TEXT_LIMIT}
use Rattle.flux_values.specs.declared.values.Value.{Value}
use Rattle.flux_values.specs.declared.values.Value.TheVariants.{Int, Bool, Text}
use Rattle.flux_values.specs.declared.answers.Answer.{Answer}
use Rattle.flux_values.specs.declared.answers.Put.{Put}
use Rattle.flux_values.specs.declared.answers.CallResult.TheVariants.{Good}
use Rattle.flux_library.specs.Answers.{ok, fails, emits, the_text}
use Rattle.flux_library.specs.Documents.{Bodies}
use Rattle.nodes_cache.specs.declared.nodes.Node.{Node}
use Rattle.nodes_cache.specs.declared.nodes.Node.TheVariants as nodes
use Rattle.nodes_cache.specs.declared.entries.TheConstants.{NAME_LIMIT, ENTRY_LIMIT}
use Rattle.nodes_cache.specs.Entries.{has_entry, body_of, uses_of, users_of, body_name, uses_name, users_name, one_more, entries, leaving}

-- ---- what nodes get

-- the text that is first; of no meaning for other values
abbrev pub the_name : List Value → List ℕ
the_name (Text name ∷ values) = name
the_name values = []

-- the text that is second; of no meaning for other values
abbrev pub the_body : List Value → List ℕ
the_body (name ∷ Text body ∷ values) = body
the_body values = []

-- ---- puts on the cell

abbrev pub put : List ℕ → Value → Put
put name value = record { cell = codes "cache"; name = name; value = Some value }

abbrev pub cut : List ℕ → Put
cut name = record { cell = codes "cache"; name = name; value = None }

-- a new entry: its body, uses 1 and users 1
abbrev pub entered : List ℕ → List ℕ → List Put
entered name body =
    put (body_name name) (Text body) ∷ put (uses_name name) (Int (pos 1)) ∷ put (users_name name) (Int (pos 1)) ∷ []

-- an entry that goes: its body, its uses and its users
abbrev pub removed : List ℕ → List Put
removed name = cut (body_name name) ∷ cut (uses_name name) ∷ cut (users_name name) ∷ []

-- one user more
abbrev pub used_more : CellMap → List ℕ → List Put
used_more cell name = put (users_name name) (Int (one_more (users_of cell name))) ∷ []

-- ok with values, and puts
abbrev pub puts : List Value → List Put → Answer
puts values changes = record { result = Good values; puts = changes; emits = [] }

-- ---- the nodes

-- `ReadName` is ok with the text; it fails 2 where that is empty or over 1,024 bytes
abbrev pub read_name_call : List ℕ → Answer
read_name_call text =
    if length text == 0 || nat_lt NAME_LIMIT (length text) then fails 2 else ok (Text text ∷ [])

-- `CheckCache` is ok with the name, its body and true where there is an entry, with one use more and
-- one user more; else it is ok with the name, the empty text and false
abbrev pub check_call : CellMap → List ℕ → Answer
check_call cell name =
    if has_entry cell name then puts (Text name ∷ Text (body_of cell name) ∷ Bool true ∷ [])
    (put (uses_name name) (Int (one_more (uses_of cell name))) ∷ used_more cell name)
    else ok (Text name ∷ Text [] ∷ Bool false ∷ [])

-- `ReadInFromDisk` is ok with the name, the document's bytes and false; it fails 4 where there is no such
-- document, and 5 where it is over 65,536 bytes
abbrev pub read_document : List ℕ → Option (List ℕ) → Answer
read_document name (Some body) =
    if nat_le (length body) TEXT_LIMIT then ok (Text name ∷ Text body ∷ Bool false ∷ []) else fails 5
read_document name None = fails 4

-- what `StoreInCache` puts where there are 8 entries or more: the one that goes makes room
abbrev pub replacing : Option (List ℕ) → List ℕ → List ℕ → List Put
replacing (Some old) name body = removed old ++ entered name body
replacing None name body = []

-- what `StoreInCache` puts: nothing for a name over 1,024 bytes, one user more for an entry, a new entry
-- where there are fewer than 8, and else one in place of another
abbrev pub stored : CellMap → List ℕ → List ℕ → List Put
stored cell name body =
    if nat_lt NAME_LIMIT (length name) then [] else
    if has_entry cell name then used_more cell name else
    if nat_lt (length (entries cell)) ENTRY_LIMIT then entered name body
    else replacing (leaving cell) name body

-- `Write` emits the body, and is ok with the name
abbrev pub write_call : List ℕ → List ℕ → Answer
write_call name body = record { result = Good (Text name ∷ []); puts = []; emits = body }

-- `Complete` puts one user less where there is an entry with users above 0
abbrev pub complete_call : CellMap → List ℕ → Answer
complete_call cell name =
    if has_entry cell name then
    (if int_lt (pos 0) (users_of cell name)
    then puts [] (put (users_name name) (Int (users_of cell name -ℤ pos 1)) ∷ []) else ok [])
    else ok []

-- the answer on the one cell; of no meaning for more or fewer
abbrev pub on_cell : (CellMap → Answer) → List CellMap → Answer
on_cell call (cell ∷ []) = call cell
on_cell call [] = ok []
on_cell call (cell ∷ next ∷ cells) = ok []

-- what a node answers on documents, values of its kinds and its cells
abbrev pub answer_of : Bodies → Node → List Value → List CellMap → Answer
answer_of docs nodes.Listen args cells = ok []
answer_of docs nodes.ReadName args cells = read_name_call (the_text args)
answer_of docs nodes.CheckCache args cells = on_cell (λ cell. check_call cell (the_name args)) cells
answer_of docs nodes.ReadInFromDisk args cells = read_document (the_name args) (get docs (the_name args))
answer_of docs nodes.StoreInCache args cells =
    on_cell (λ cell. puts args (stored cell (the_name args) (the_body args))) cells
answer_of docs nodes.Write args cells = write_call (the_name args) (the_body args)
answer_of docs nodes.Complete args cells = on_cell (λ cell. complete_call cell (the_name args)) cells
answer_of docs nodes.FourOhFour args cells = emits (codes "not found\n")

-- the answer of a name; of no meaning where the library doesn't have it
abbrev pub answer_named : Bodies → Option Node → List Value → List CellMap → Answer
answer_named docs (Some node) args cells = answer_of docs node args cells
answer_named docs None args cells = ok []
