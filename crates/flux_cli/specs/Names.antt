-- The names of commands.
use Rattle.std.specs.Prelude.{◌≡◌, ◌⊎◌, ℕ, List, codes}
use Rattle.flux_cli.specs.declared.names.CommandName.{CommandName}
use Rattle.flux_cli.specs.declared.names.CommandName.TheVariants.{Check, Plan, Format, Run, Audit, Load, Serve, Help, Simulate, Swarm}

-- a word names a command
abbrev pub IsNamed : CommandName → List ℕ → Type 0
IsNamed Check word = word ≡ codes "check"
IsNamed Plan word = word ≡ codes "plan"
IsNamed Format word = word ≡ codes "format"
IsNamed Run word = word ≡ codes "run"
IsNamed Audit word = word ≡ codes "audit"
IsNamed Load word = word ≡ codes "load"
IsNamed Serve word = word ≡ codes "serve"
IsNamed Help word = (word ≡ codes "help") ⊎ (word ≡ codes "--help")
IsNamed Simulate word = word ≡ codes "simulate"
IsNamed Swarm word = word ≡ codes "swarm"
