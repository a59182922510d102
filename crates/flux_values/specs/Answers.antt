-- Answers that yield to want of memory.
use Rattle.std.specs.Prelude.{◌≡◌, ◌⊎◌, Result, Err}

-- this is the answer, or memory was short, for which this error is the answer
abbrev pub IsOrMemory : {A E : Type 0} → E → Result A E → Result A E → Type 0
IsOrMemory memory answer result = (result ≡ answer) ⊎ (result ≡ Err memory)
