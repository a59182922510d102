-- How verdicts are printed.
use Rattle.std.specs.Prelude.{ℕ, List, ◌++◌, codes}
use Rattle.std.specs.Fmt.{decimal}
use Rattle.flux_audit.specs.declared.verdicts.Rule.{Rule}
use Rattle.flux_audit.specs.declared.verdicts.Rule.TheVariants as rules
use Rattle.flux_audit.specs.declared.verdicts.Verdict.{Verdict}
use Rattle.flux_audit.specs.declared.verdicts.Verdict.TheVariants.{Yes, No}

abbrev pub rule_name : Rule → List ℕ
rule_name rules.Head = codes "head"
rule_name rules.Text = codes "text"
rule_name rules.Flow = codes "flow"
rule_name rules.Path = codes "path"
rule_name rules.Answer = codes "answer"
rule_name rules.Hold = codes "hold"
rule_name rules.Turn = codes "turn"
rule_name rules.Wait = codes "wait"
rule_name rules.Short = codes "short"

-- the line of a verdict
abbrev pub printed_verdict : Verdict → List ℕ
printed_verdict (Yes events) = codes "ok " ++ decimal events ++ codes " events\n"
printed_verdict (No line rule) = codes "line " ++ decimal line ++ codes ": " ++ rule_name rule ++ codes "\n"
