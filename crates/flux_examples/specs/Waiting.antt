-- Where a wait may not be, and what a cycle of waits is: small journals.
use Rattle.std.specs.Prelude.{List, [], ◌∷◌, codes}
use Rattle.flux_values.specs.declared.answers.Mode.TheVariants.{Writer}
use Rattle.flow_model.specs.declared.journals.Entry.{Entry}
use Rattle.flow_model.specs.declared.journals.Event.TheVariants.{Take, Wait}
use Rattle.flow_model.specs.Waits.{MayWait, IsFreeOfCycles}
use Rattle.flux_examples.specs.Small.{concrete, none_held, two, both_write, crossed, a, b, by}

-- ---- a flow may wait for a key that another holds

abbrev pub MayWaitWhereHeld : Type 0
MayWaitWhereHeld = MayWait both_write (by 0 (Take a Writer) ∷ []) (record { 0 = 1 }) a Writer []

-- ---- each of the four conditions on a wait refuses one

-- the flow's next event isn't that take, though another flow holds the key: its node has no locks
abbrev pub WaitsForItsOwnTake : Type 0
WaitsForItsOwnTake = MayWait (two (concrete (codes "A") [] [] ∷ concrete (codes "B") [] [] ∷ []) none_held)
    (by 0 (Take a Writer) ∷ []) (record { 0 = 1 }) a Writer [] → ⊥

-- nobody blocks it
abbrev pub WaitsOnlyWhereBlocked : Type 0
WaitsOnlyWhereBlocked = MayWait both_write [] (record { 0 = 1 }) a Writer [] → ⊥

-- it waits already
abbrev pub WaitsOnce : Type 0
WaitsOnce = MayWait both_write (by 0 (Take a Writer) ∷ by 1 (Wait a Writer) ∷ [])
    (record { 0 = 1 }) a Writer [] → ⊥

-- it is overtaken: another flow that came later takes the key while it waits
abbrev pub IsNotPassedBy : Type 0
IsNotPassedBy = MayWait both_write (by 0 (Take a Writer) ∷ []) (record { 0 = 1 }) a Writer
    (by 2 (Take a Writer) ∷ []) → ⊥

-- ---- two flows that hold what the other takes next wait in a cycle

abbrev pub holding_both : List Entry
holding_both = by 0 (Take a Writer) ∷ by 1 (Take b Writer) ∷ []

abbrev pub CyclesAreFound : Type 0
CyclesAreFound = IsFreeOfCycles crossed holding_both → ⊥
