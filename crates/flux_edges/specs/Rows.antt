-- The faults 21 and 26 in declarations: for each its row, the words at which it applies.
use Rattle.std.specs.Prelude.{ℕ, Bool, ◌||◌, not, if◌then◌else◌, List, [], ◌∷◌}
use Rattle.std.specs.List.{flat_map}
use Rattle.std.specs.Option.{is_some}
use Rattle.flux_model.specs.declared.signatures.NodeSig.{NodeSig}
use Rattle.flux_model.specs.Types.{same_types}
use Rattle.flux_faults.specs.declared.faults.FaultKind.TheVariants.{HandlerTypes, NoSession}
use Rattle.flux_syntax.specs.declared.declarations.Word.{Word}
use Rattle.flux_syntax.specs.declared.declarations.Decl.{Decl}
use Rattle.flux_syntax.specs.declared.declarations.Decl.TheVariants.{Source, Handler}
use Rattle.flux_syntax.specs.Words.{names_of}
use Rattle.flux_syntax.specs.Least.{Row}
use Rattle.flux_syntax.specs.ProgramOfText.{place_of, session_of, program_of}
use Rattle.flux_edges.specs.Sessions.{needs_session}

-- a word, where something doesn't hold
abbrev pub word_unless : Bool → Word → List Word
word_unless holds word = if holds then [] else word ∷ []

-- 21: a handler's inputs differ from its node's; `sigs` has what nodes take and give, by number
abbrev pub unlike_handler : (ℕ → NodeSig) → List (List ℕ) → Decl → List Word
unlike_handler sigs names (Handler node codes handler) =
    let own = sigs (place_of names node) in let their = sigs (place_of names handler) in
    word_unless (same_types own.ins their.ins) handler
unlike_handler sigs names other = []

-- 26: a source without `session` leads, by its target and on, to a node with a session constraint
abbrev pub unserved_source : List Decl → Decl → List Word
unserved_source decls (Source name target) = word_unless
    (is_some (session_of name.text decls)
    || not (needs_session (program_of decls) (place_of (names_of decls) target))) name
unserved_source decls other = []

abbrev pub handler_rows : (ℕ → NodeSig) → List Decl → List Row
handler_rows sigs decls =
    (HandlerTypes, flat_map (unlike_handler sigs (names_of decls)) decls) ∷ []

abbrev pub session_rows : List Decl → List Row
session_rows decls = (NoSession, flat_map (unserved_source decls) decls) ∷ []
