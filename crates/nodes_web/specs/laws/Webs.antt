-- The library keeps the laws of a library (an `impl` takes its laws' proofs from here).
use Rattle.std.proofs.Common.{◌≡◌, ℕ, ◌<◌, ◌≤◌, nat_lt, eqb, Bool, true, false, List, [], ◌∷◌, length, drop, codes, Option, Some, None, IfSome, is_some, if◌then◌else◌, refl, sym, arith, rules}
use Rattle.std.specs.List.{All, AllByRecursion, position_or_len}
use Rattle.std.specs.FinMap.{get}
use Rattle.std.proofs.lemmas.Bool.{ltb-false}
use Rattle.std.proofs.lemmas.List.Elements.{All-nil, All-append, All-drop, All-take, All-from_recursion}
use Rattle.http.specs.StatusCode.{status_text}
use Rattle.flux_values.specs.declared.values.Value.{Value}
use Rattle.flux_values.specs.declared.values.Value.TheVariants as values
use Rattle.flux_values.specs.Reading.{IsValue}
use Rattle.flux_library.specs.Libraries.{IsLawfulNode, IsAnswerOf, IsLawful}
use Rattle.flux_library.specs.Answers.{the_text}
use Rattle.flux_library.specs.laws.Answers.{text_valid}
use Rattle.flux_library.specs.laws.Types.{types_short}
use Rattle.flux_library.specs.Documents.{DocMap, IsBody}
use Rattle.nodes_web.specs.declared.nodes.Node.{Node}
use Rattle.nodes_web.specs.declared.nodes.Node.TheVariants as nodes
use Rattle.nodes_web.specs.declared.web.Web.{Web}
use Rattle.nodes_web.specs.Heads.{Front, headed, headless}
use Rattle.nodes_web.specs.Requests.{is_path, is_served}
use Rattle.nodes_web.specs.Names.{is_folder, name_of, type_of, ending}
use Rattle.nodes_web.specs.Nodes.{node_named, sig_of, sig_named}
use Rattle.nodes_web.specs.Calls.{first_text, read_front, look_up_call, sent, refused, gets_body, begins_otherwise, answer_named}
use Rattle.nodes_web.specs.laws.Heads.{cut_fits, head_fits, head_parts}
use Rattle.nodes_web.specs.laws.Replies.{length-type_of_ending, length-reply, length-error_reply, length-status_text-200, length-status_text-400, length-status_text-404, length-status_text-405}
use Rattle.nodes_web.specs.Webs.{web_meaning}
use Rattle.nodes_web.specs.steps.Deciding.{front_of}

abbrev IsByte : ℕ → Type 0
IsByte byte = byte < 256

no_text : IsValue (values.Text [])
no_text = (All-nil IsByte, omega arith)

first_valid : (args : List Value) → AllByRecursion IsValue args → IsValue (values.Text (first_text args))
first_valid [] all = no_text
first_valid (values.Int n ∷ args) all = no_text
first_valid (values.Bool b ∷ args) all = no_text
first_valid (values.Text t ∷ []) all = no_text
first_valid (values.Text t ∷ v ∷ []) all = all.0
first_valid (values.Text t ∷ v ∷ w ∷ more) all = no_text

-- ---- answers

read_lawful : (text : List ℕ) → IsValue (values.Text text) → (front : Front text) → IsAnswerOf (sig_of nodes.ReadRequest) (read_front front)
read_lawful text valid (headless none) = record { result = (omega arith, omega arith); puts = tt; emits = omega arith }
read_lawful text valid (headed head is) = cases (is_served head) refl
  where
    cases : (b : Bool) → is_served head ≡ b → IsAnswerOf (sig_of nodes.ReadRequest) (read_front (headed head is))
    cases false p = rw p (record { result = (omega arith, omega arith); puts = tt; emits = omega arith })
    cases true p =
        let bytes = head_parts IsByte text head is valid.0 in
        let fits = head_fits text head is in
        let cut = position_or_len (λ byte. eqb byte 63) head.target in
        let short = cut_fits cut head.target in
        rw p (record {
          result = (refl, ((bytes.0, omega (arith, valid.1)), ((All-take IsByte cut head.target bytes.1, omega (arith, valid.1)), tt)));
          puts = tt;
          emits = omega arith;
        })

folder_bytes : (folder : Bool) → All IsByte (if folder then codes "index.html" else [])
folder_bytes true = All-from_recursion IsByte (codes "index.html") (search rules)
folder_bytes false = All-nil IsByte

look_up_lawful : (docs : DocMap) (method path : List ℕ) → IsValue (values.Text method) → IsValue (values.Text path) → IsAnswerOf (sig_of nodes.LookUp) (look_up_call docs method path)
look_up_lawful docs method path valid asked = cases (is_path path) refl (nat_lt 65536 (length (name_of path))) refl (is_some (get docs.named (name_of path))) refl
  where
    cases : (a : Bool) → is_path path ≡ a → (b : Bool) → nat_lt 65536 (length (name_of path)) ≡ b → (d : Bool) → is_some (get docs.named (name_of path)) ≡ d
        → IsAnswerOf (sig_of nodes.LookUp) (look_up_call docs method path)
    cases false p b q d r = rw p (record { result = (omega arith, omega arith); puts = tt; emits = omega arith })
    cases true p true q d r = rw (p, q) (record { result = (omega arith, omega arith); puts = tt; emits = omega arith })
    cases true p false q false r = rw (p, q, r) (record { result = (omega arith, omega arith); puts = tt; emits = omega arith })
    cases true p false q true r = rw (p, q, r) (record {
      result = (refl, (valid, ((All-append IsByte (drop 1 path) (if is_folder path then codes "index.html" else []) (All-drop IsByte 1 path asked.0) (folder_bytes (is_folder path)), ltb-false 65536 (length (name_of path)) q), tt)));
      puts = tt;
      emits = omega arith;
    })

send_lawful : (node : Node) → (sig_of node).outs ≡ [] → (name : List ℕ) (whole : Bool) (found : Option (List ℕ)) → IfSome found IsBody → IsAnswerOf (sig_of node) (sent name whole found)
send_lawful node none name whole None is = record { result = (omega arith, omega arith); puts = tt; emits = omega arith }
send_lawful node none name whole (Some body) is = record {
  result = (sym none, tt);
  puts = tt;
  emits = omega (arith, length-reply 200 (type_of name) body whole length-status_text-200 (length-type_of_ending (ending name)) (omega (arith, is.1)), is.1);
}

refused_lawful : (node : Node) → (sig_of node).outs ≡ [] → (code : ℕ) (whole : Bool) → length (status_text code) ≤ 30 → IsAnswerOf (sig_of node) (refused code whole)
refused_lawful node none code whole short = record {
  result = (sym none, tt);
  puts = tt;
  emits = omega (arith, length-error_reply code whole short);
}

-- ---- nodes

node_lawful : (docs : DocMap) (node : Option Node) → IsLawfulNode (sig_named node) (λ args cells. answer_named docs node args)
node_lawful docs None = tt
node_lawful docs (Some nodes.Accept) = record { source = refl; answers = λ args cells fits all. let h = fits.role in absurd cc }
node_lawful docs (Some nodes.ReadRequest) = record { source = tt; answers = λ args cells fits all. read_lawful (the_text args) (text_valid args all) (front_of (the_text args)) }
node_lawful docs (Some nodes.LookUp) = record { source = tt; answers = λ args cells fits all. look_up_lawful docs (first_text args) (the_text args) (first_valid args all) (text_valid args all) }
node_lawful docs (Some nodes.SendDoc) = record { source = tt; answers = λ args cells fits all. send_lawful nodes.SendDoc refl (the_text args) true (get docs.named (the_text args)) (docs.bodies (the_text args)) }
node_lawful docs (Some nodes.SendHead) = record { source = tt; answers = λ args cells fits all. send_lawful nodes.SendHead refl (the_text args) false (get docs.named (the_text args)) (docs.bodies (the_text args)) }
node_lawful docs (Some nodes.NotFound) = record { source = tt; answers = λ args cells fits all. refused_lawful nodes.NotFound refl 404 (gets_body (first_text args)) length-status_text-404 }
node_lawful docs (Some nodes.NotAllowed) = record { source = tt; answers = λ args cells fits all. refused_lawful nodes.NotAllowed refl 405 (gets_body (first_text args)) length-status_text-405 }
node_lawful docs (Some nodes.BadRequest) = record { source = tt; answers = λ args cells fits all. refused_lawful nodes.BadRequest refl 400 (begins_otherwise (the_text args)) length-status_text-400 }

pub web_lawful : (library : Web) → IsLawful (web_meaning library.docs)
web_lawful library = record { short = types_short; nodes = λ name. node_lawful library.docs (node_named name) }
