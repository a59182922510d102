-- Keys as entries keep them.
use Rattle.std.specs.Prelude.{◌≡◌, true, false, Some, None}
use Rattle.flow_model.specs.KeptKeys.{kept_key}

-- a session's number is the key's, be it 0; elsewhere there is none
abbrev pub KeysAreKept : Type 0
KeysAreKept = (kept_key (record { 0 = 2 }) true 3 ≡ record { class = record { 0 = 2 }; id = Some 3 })
    × (kept_key (record { 0 = 2 }) true 0 ≡ record { class = record { 0 = 2 }; id = Some 0 })
    × (kept_key (record { 0 = 2 }) false 0 ≡ record { class = record { 0 = 2 }; id = None })

-- no number is lost, and none is made of what means nothing
abbrev pub NoNumberIsLost : Type 0
NoNumberIsLost = kept_key (record { 0 = 2 }) true 0 ≡ record { class = record { 0 = 2 }; id = None } → ⊥

abbrev pub NoNumberIsMade : Type 0
NoNumberIsMade = kept_key (record { 0 = 2 }) false 3 ≡ record { class = record { 0 = 2 }; id = Some 3 } → ⊥
