-- Where the texts that a command reads come from.
use Rattle.std.specs.Prelude.{◌≡◌, ℕ, List, IsSome, ⊤}
use Rattle.flux_outside.specs.declared.stores.File.TheVariants.{Found}
use Rattle.flux_commands.specs.Told.{Files, Gives}

-- a file of this name, or the command itself, which makes this text
pub data Origin : Type 0 where
  named : List ℕ → Origin
  made : List ℕ → Origin

-- the text is there; a file is within its limit
abbrev pub GivesText : Files → Origin → ℕ → List ℕ → Type 0
GivesText told (named file) max text = Gives told file max (Found text)
GivesText told (made own) max text = text ≡ own

-- it is reported what the text is
abbrev pub TellsText : Files → Origin → Type 0
TellsText told (named file) = IsSome told
TellsText told (made own) = ⊤
