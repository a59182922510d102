-- A journal's two formats. Format 1 is its lines alone.
use Rattle.std.specs.Prelude.{◌≡◌, ◌<◌, ◌^◌, ℕ, List, ◌++◌, length, codes}
use Rattle.std.specs.Fmt.{decimal}
use Rattle.flux_model.specs.declared.programs.Program.{Program}
use Rattle.flow_model.specs.declared.journals.Journal.{Journal}
use Rattle.flow_model.specs.Texts.{printed_journal}

-- what a head line begins with
abbrev pub head_mark : List ℕ
head_mark = codes "flux journal"

-- the head line for so many flows and events, without its LF
abbrev pub head_line : ℕ → ℕ → List ℕ
head_line flows events =
    codes "flux journal 2 flows " ++ decimal flows ++ codes " events " ++ decimal events

-- a line is the head line for two numbers, which fit their fields
pub record IsHeadLine (line : List ℕ) (flows events : ℕ) : Type 0 where
  pub small : flows < 2 ^ 32
  pub fits : events < 2 ^ 64
  pub is : line ≡ head_line flows events

-- format 2: the head line before the same lines
abbrev pub printed_journal_2 : Program → ℕ → Journal → List ℕ
printed_journal_2 p flows journal =
    head_line flows (length journal.entries) ++ codes "\n" ++ printed_journal p journal
