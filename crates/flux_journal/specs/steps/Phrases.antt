-- Steps of printing the lines of nodes: what is in them, by a node's name.
use Rattle.std.specs.Prelude.{◌≡◌, ℕ, List, [], ◌∷◌, ◌++◌, map, codes, ⊤}
use Rattle.flux_model.specs.declared.programs.Program.{Program}
use Rattle.flux_model.specs.declared.programs.Node.{Node}
use Rattle.flux_journal.specs.declared.phrases.Phrase.{Phrase}
use Rattle.flux_journal.specs.declared.phrases.Phrase.TheVariants.{Enter, Call, Exit, Done}
use Rattle.flux_journal.specs.declared.phrases.NodePhrases.{NodePhrases}

-- how a node's line goes on after its flow's number
abbrev pub phrase_text : Phrase → List ℕ → List ℕ
phrase_text Enter name = codes " enter " ++ name ++ codes "\n"
phrase_text Call name = codes " call " ++ name ++ codes " ("
phrase_text Exit name = codes " exit " ++ name ++ codes " "
phrase_text Done name = codes " exit " ++ name ++ codes " ok\n"

-- one of a node's phrases
abbrev pub text_in : NodePhrases → Phrase → List ℕ
text_in phrases Enter = phrases.enter
text_in phrases Call = phrases.call
text_in phrases Exit = phrases.exit
text_in phrases Done = phrases.done

-- all phrases of a name
abbrev pub phrases_with : List ℕ → NodePhrases
phrases_with name = record {
  enter = phrase_text Enter name;
  call = phrase_text Call name;
  exit = phrase_text Exit name;
  done = phrase_text Done name;
}

-- those of a node
abbrev pub phrases_of : Node → NodePhrases
phrases_of node = phrases_with node.name

-- none, or those of each node
abbrev pub ArePhrasesOf : Program → List NodePhrases → Type 0
ArePhrasesOf p [] = ⊤
ArePhrasesOf p (first ∷ rest) = first ∷ rest ≡ map phrases_of p.nodes
