-- What makes a journal legal.
use Rattle.std.specs.Prelude.{ℕ, ◌<◌, List, length}
use Rattle.std.specs.List.{AllByRecursion}
use Rattle.flow_model.specs.declared.journals.Entry.{Entry}
use Rattle.flow_model.specs.Setup.{Setup}
use Rattle.flux_model.specs.Locks.{AreLocks}
use Rattle.flow_model.specs.Events.{FollowsWalk}
use Rattle.flow_model.specs.Answers.{AreAnswersRight}
use Rattle.flow_model.specs.Exclusion.{TakesExclude}
use Rattle.flow_model.specs.Waits.{WaitsAreRight}
use Rattle.flow_model.specs.Legal.{IsLegal}

-- all that is asked of a legal journal, but that its sections exclude and that no waits form a cycle
pub record HasParts (setup : Setup) (entries : List Entry) : Type 0 where
  pub locks : AreLocks setup.program setup.locks
  pub flows : AllByRecursion (λ entry. entry.flow.0 < length setup.items) entries
  pub walks : (flow : ℕ) → flow < length setup.items → FollowsWalk setup entries flow
  pub answers : AreAnswersRight setup entries
  pub takes : TakesExclude entries
  pub waits : WaitsAreRight setup entries

-- these follow
abbrev pub PartsMakeLegal : Type 0
PartsMakeLegal = (setup : Setup) (entries : List Entry) → HasParts setup entries → IsLegal setup entries
