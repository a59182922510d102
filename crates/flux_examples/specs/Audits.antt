-- Entries that keep a rule, and entries that break it.
use Rattle.std.specs.Prelude.{List, [], ◌∷◌}
use Rattle.flux_values.specs.declared.answers.CallResult.TheVariants as results
use Rattle.flux_values.specs.declared.answers.Mode.TheVariants.{Writer}
use Rattle.flow_model.specs.declared.journals.Entry.{Entry}
use Rattle.flow_model.specs.declared.journals.Event.TheVariants.{Take, Wait, Enter}
use Rattle.flux_examples.specs.SmallAudits.{int, no, flow, by, called, a, both_write, free}
use Rattle.flux_audit.specs.declared.verdicts.Rule.TheVariants as rules
use Rattle.flux_audit.specs.Rules.{Keeps, Breaks}

-- one flow has taken the key that both flows take first
abbrev pub taken : List Entry
taken = by 0 (Take a Writer) ∷ []

-- and another waits for it
abbrev pub awaited : List Entry
awaited = by 1 (Wait a Writer) ∷ []

-- one flow has entered a node, whose library node always fails with 1
abbrev pub entered : List Entry
entered = by 0 (Enter (no 0)) ∷ []

pub record Kept : Type 0 where
  -- there are two items, for flows 0 and 1
  pub flow_ : Keeps free [] (flow 0) (Enter (no 0)) rules.Flow
  -- the first event of flow 0 is its take
  pub path : Keeps both_write [] (flow 0) (Take a Writer) rules.Path
  -- a wait is for the take that is next
  pub path_of_wait : Keeps both_write taken (flow 1) (Wait a Writer) rules.Path
  -- the call fails with 1
  pub answer_ : Keeps free entered (flow 0) (called 0 (int 7 ∷ []) (results.Bad 1)) rules.Answer
  -- nobody holds the key
  pub hold : Keeps both_write [] (flow 0) (Take a Writer) rules.Hold
  -- who waits for a key takes it in turn
  pub turn : Keeps both_write awaited (flow 1) (Take a Writer) rules.Turn
  -- flow 1 waits for what flow 0 holds
  pub wait : Keeps both_write taken (flow 1) (Wait a Writer) rules.Wait

pub record Broken : Type 0 where
  -- there is no third item
  pub flow_ : Breaks free [] (flow 2) (Enter (no 0)) rules.Flow
  -- the take comes before the node is entered
  pub path : Breaks both_write [] (flow 0) (Enter (no 0)) rules.Path
  -- a flow waits once for a take
  pub path_of_wait : Breaks both_write awaited (flow 1) (Wait a Writer) rules.Path
  -- the call doesn't fail with 2
  pub answer_ : Breaks free entered (flow 0) (called 0 (int 7 ∷ []) (results.Bad 2)) rules.Answer
  -- flow 0 holds the key
  pub hold : Breaks both_write taken (flow 1) (Take a Writer) rules.Hold
  -- flow 1 waits for the key, and flow 0 doesn't
  pub turn : Breaks both_write awaited (flow 0) (Take a Writer) rules.Turn
  -- nobody holds the key that flow 1 would wait for
  pub wait : Breaks both_write [] (flow 1) (Wait a Writer) rules.Wait
