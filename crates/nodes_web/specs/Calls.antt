-- What each node answers.
use Rattle.std.specs.Prelude.{ℕ, not, nat_lt, if◌then◌else◌, Bool, true, false, List, [], ◌∷◌, take, drop, length, Option, Some, None, is_some, codes}
use Rattle.std.specs.List.{prefix_len}
use Rattle.std.specs.Str.{bytes_eq}
use Rattle.std.specs.FinMap.{get}
use Rattle.httparse.specs.Pieces.{is_newline}
use Rattle.flux_values.specs.declared.values.Value.{Value}
use Rattle.flux_values.specs.declared.values.Value.TheVariants.{Text}
use Rattle.flux_values.specs.declared.answers.Answer.{Answer}
use Rattle.flux_values.specs.declared.texts.TheConstants.{TEXT_LIMIT}
use Rattle.flux_library.specs.Answers.{ok, fails, emits, the_text}
use Rattle.flux_library.specs.Documents.{DocMap}
use Rattle.nodes_web.specs.declared.nodes.Node.{Node}
use Rattle.nodes_web.specs.declared.nodes.Node.TheVariants as nodes
use Rattle.nodes_web.specs.Heads.{Front, headed, headless}
use Rattle.nodes_web.specs.Requests.{is_path, is_served, path_of}
use Rattle.nodes_web.specs.Names.{name_of, type_of}
use Rattle.nodes_web.specs.Replies.{reply, error_reply}
use Rattle.nodes_web.specs.steps.Deciding.{front_of}

-- the first text of two; of no meaning for other values. The second is `the_text`
abbrev pub first_text : List Value → List ℕ
first_text (Text text ∷ other ∷ []) = text
first_text values = []

-- ok with two texts
abbrev pub two : List ℕ → List ℕ → Answer
two first second = ok (Text first ∷ Text second ∷ [])

-- ---- reading

-- `ReadRequest` is ok with the method and the path of the head at the front of the text; it fails 1
-- where there is none, and where the request isn't one to be answered
abbrev pub read_front : {text : List ℕ} → Front text → Answer
read_front (headed head is) =
    if is_served head then two head.method (path_of head.target) else fails 1
read_front (headless none) = fails 1

abbrev pub read_call : List ℕ → Answer
read_call text = read_front (front_of text)

-- `LookUp` is ok with the method and the name of the document that the path asks for; it fails 5
-- where the name is too long for a text, and 4 where there is no such document
abbrev pub look_up_call : DocMap → List ℕ → List ℕ → Answer
look_up_call docs method path =
    if not (is_path path) then fails 4 else
    if nat_lt TEXT_LIMIT (length (name_of path)) then fails 5 else
    if is_some (get docs.named (name_of path)) then two method (name_of path) else fails 4

-- ---- replying

-- `SendDoc` and `SendHead` emit the reply with the document, whole or its head alone; they fail 4
-- where there is none
abbrev pub sent : List ℕ → Bool → Option (List ℕ) → Answer
sent name whole (Some body) = emits (reply 200 (type_of name) body whole)
sent name whole None = fails 4

abbrev pub send_call : DocMap → List ℕ → Bool → Answer
send_call docs name whole = sent name whole (get docs.named name)

-- a method other than `HEAD` gets a body
abbrev pub gets_body : List ℕ → Bool
gets_body method = not (bytes_eq method (codes "HEAD"))

abbrev pub without_newlines : List ℕ → List ℕ
without_newlines text = drop (prefix_len is_newline text) text

-- so does a text that, after any CR and LF at its start, doesn't begin with `HEAD` and a space
abbrev pub begins_otherwise : List ℕ → Bool
begins_otherwise text = not (bytes_eq (take 5 (without_newlines text)) (codes "HEAD "))

-- emits the reply whose body is its code and phrase
abbrev pub refused : ℕ → Bool → Answer
refused code whole = emits (error_reply code whole)

-- what a node answers on values of its kinds
abbrev pub answer_of : DocMap → Node → List Value → Answer
answer_of docs nodes.Accept args = ok []
answer_of docs nodes.ReadRequest args = read_call (the_text args)
answer_of docs nodes.LookUp args = look_up_call docs (first_text args) (the_text args)
answer_of docs nodes.SendDoc args = send_call docs (the_text args) true
answer_of docs nodes.SendHead args = send_call docs (the_text args) false
answer_of docs nodes.NotFound args = refused 404 (gets_body (first_text args))
answer_of docs nodes.NotAllowed args = refused 405 (gets_body (first_text args))
answer_of docs nodes.BadRequest args = refused 400 (begins_otherwise (the_text args))

-- the answer of a name; of no meaning where the library doesn't have it
abbrev pub answer_named : DocMap → Option Node → List Value → Answer
answer_named docs (Some node) args = answer_of docs node args
answer_named docs None args = ok []
