-- Steps of printing the lines of keys: what is in them around the key's number, by the name of the key's class.
use Rattle.std.specs.Prelude.{◌≡◌, ℕ, List, [], ◌∷◌, ◌++◌, map, codes, ⊤, Bool, true, false}
use Rattle.flux_model.specs.declared.programs.Program.{Program}
use Rattle.flux_model.specs.declared.programs.Class.{Class}
use Rattle.flux_values.specs.declared.answers.Mode.TheVariants.{Reader, Writer}
use Rattle.flux_model.specs.Texts.{printed_mode}
use Rattle.flux_journal.specs.declared.key_phrases.KeyPhrase.{KeyPhrase}
use Rattle.flux_journal.specs.declared.key_phrases.KeyPhrase.TheVariants.{Take, Wait, Drop}
use Rattle.flux_journal.specs.declared.key_phrases.KeyPhrases.{KeyPhrases}
use Rattle.flux_journal.specs.declared.key_phrases.ClassPhrases.{ClassPhrases}

-- the word of a phrase, with its blanks
abbrev pub key_word : KeyPhrase → List ℕ
key_word (Take mode) = codes " take "
key_word (Wait mode) = codes " wait "
key_word Drop = codes " drop "

-- what follows a phrase's key: how the key is held, and LF
abbrev pub key_behind : KeyPhrase → List ℕ
key_behind (Take mode) = printed_mode mode ++ codes "\n"
key_behind (Wait mode) = printed_mode mode ++ codes "\n"
key_behind Drop = codes "\n"

-- what follows a class's name: the mark before a key's number, or else what follows the key
abbrev pub name_behind : KeyPhrase → Bool → List ℕ
name_behind phrase true = codes "@"
name_behind phrase false = key_behind phrase

-- the word, the class's name and what follows the name
abbrev pub key_text : KeyPhrase → Bool → List ℕ → List ℕ
key_text phrase numbered name = key_word phrase ++ name ++ name_behind phrase numbered

-- one of the phrases of keys
abbrev pub key_text_in : KeyPhrases → KeyPhrase → List ℕ
key_text_in phrases (Take Reader) = phrases.taking_to_read
key_text_in phrases (Take Writer) = phrases.taking_to_write
key_text_in phrases (Wait Reader) = phrases.waiting_to_read
key_text_in phrases (Wait Writer) = phrases.waiting_to_write
key_text_in phrases Drop = phrases.dropping

-- one of a class's phrases
abbrev pub class_text_in : ClassPhrases → Bool → KeyPhrase → List ℕ
class_text_in phrases true phrase = key_text_in phrases.numbered phrase
class_text_in phrases false phrase = key_text_in phrases.plain phrase

-- the phrases of a class's keys, with a number or without
abbrev pub key_phrases_with : Bool → List ℕ → KeyPhrases
key_phrases_with numbered name = record {
  taking_to_read = key_text (Take Reader) numbered name;
  taking_to_write = key_text (Take Writer) numbered name;
  waiting_to_read = key_text (Wait Reader) numbered name;
  waiting_to_write = key_text (Wait Writer) numbered name;
  dropping = key_text Drop numbered name;
}

-- those of a class
abbrev pub class_phrases_of : Class → ClassPhrases
class_phrases_of class = record {
  plain = key_phrases_with false class.name;
  numbered = key_phrases_with true class.name;
}

-- none, or those of each class
abbrev pub AreKeyPhrasesOf : Program → List ClassPhrases → Type 0
AreKeyPhrasesOf p [] = ⊤
AreKeyPhrasesOf p (first ∷ rest) = first ∷ rest ≡ map class_phrases_of p.classes
