-- Steps of a command: the line of a verdict, and the lines of a swarm.
use Rattle.std.specs.Prelude.{◌≡◌, ℕ, List}
use Rattle.flow_model.specs.Setup.{Setup}
use Rattle.flux_audit.specs.declared.verdicts.Rule.{Rule}
use Rattle.flux_audit.specs.declared.verdicts.Verdict.TheVariants as verdicts
use Rattle.flux_audit.specs.Verdicts.{HasVerdict}
use Rattle.flux_audit.specs.Printed.{printed_verdict}
use Rattle.flux_commands.specs.declared.prepared.Prepared.{Prepared}
use Rattle.flux_commands.specs.declared.prepared.Prepared.TheVariants.{Text, No}
use Rattle.flux_commands.specs.Swarmed.{IsSwarmOf}

-- the verdict is no
abbrev pub IsNoVerdict : Setup → List ℕ → List ℕ → Type 0
IsNoVerdict setup journal text = (line : ℕ) × (rule : Rule)
    × HasVerdict setup journal (verdicts.No line rule)
    × (text ≡ printed_verdict (verdicts.No line rule))

-- a verdict is printed: yes as what was asked for, and no as no
abbrev pub IsVerdictText : Setup → List ℕ → Prepared → Type 0
IsVerdictText setup journal (Text text) = (events : ℕ)
    × HasVerdict setup journal (verdicts.Yes events)
    × (text ≡ printed_verdict (verdicts.Yes events))
IsVerdictText setup journal (No text) = IsNoVerdict setup journal text

-- where the journal is right, the swarm of a hash after it is printed as what was asked for, and no
-- as no
abbrev pub IsPreparedSwarm : Setup → List ℕ → List ℕ → Prepared → Type 0
IsPreparedSwarm setup journal hash (Text text) = IsSwarmOf setup journal hash text
IsPreparedSwarm setup journal hash (No text) = IsNoVerdict setup journal text
