-- Which journals keep the rules: the legal ones, and no others.
use Rattle.std.specs.Prelude.{◌≡◌, ℕ, List}
use Rattle.flux_model.specs.declared.items.FlowNo.{FlowNo}
use Rattle.flux_model.specs.Locks.{AreLocks}
use Rattle.flux_model.specs.Names.{IsNamed}
use Rattle.flow_model.specs.declared.journals.Event.{Event}
use Rattle.flow_model.specs.declared.journals.Entry.{Entry}
use Rattle.flow_model.specs.Setup.{Setup}
use Rattle.flow_model.specs.Events.{Stands, IsLive}
use Rattle.flow_model.specs.Legal.{IsLegal, IsWhole}
use Rattle.flux_audit.specs.declared.verdicts.Rule.{Rule}
use Rattle.flux_audit.specs.declared.verdicts.Verdict.{Verdict}
use Rattle.flux_audit.specs.Rules.{Keeps}
use Rattle.flux_audit.specs.Verdicts.{HasVerdict}

-- each entry keeps all rules after those before it
abbrev pub EachKeeps : Setup → List Entry → Type 0
EachKeeps setup entries = (before after : List Entry) (flow : FlowNo) (event : Event)
    → Stands entries before flow event after → (rule : Rule) → Keeps setup before flow event rule

-- with the program's locks such a journal is legal; that sections exclude and that no waits form a cycle follows
abbrev pub RulesMakeLegal : Type 0
RulesMakeLegal = (setup : Setup) (entries : List Entry) → AreLocks setup.program setup.locks
    → EachKeeps setup entries → IsLegal setup entries

-- and a legal journal is such
abbrev pub LegalKeepsRules : Type 0
LegalKeepsRules = (setup : Setup) (entries : List Entry) → IsLegal setup entries → EachKeeps setup entries

-- a legal journal in which each flow has its `end` is whole
abbrev pub EndsMakeWhole : Type 0
EndsMakeWhole = (setup : Setup) (entries : List Entry) → IsLegal setup entries
    → ((flow : ℕ) → IsLive setup entries flow → ⊥) → IsWhole setup entries

-- and in a whole one each has
abbrev pub WholeHasEnds : Type 0
WholeHasEnds = (setup : Setup) (entries : List Entry) → IsWhole setup entries
    → (flow : ℕ) → IsLive setup entries flow → ⊥

-- a text has one verdict
abbrev pub OneVerdict : Type 0
OneVerdict = (setup : Setup) (text : List ℕ) (first second : Verdict) → IsNamed setup.program
    → HasVerdict setup text first → HasVerdict setup text second → first ≡ second
