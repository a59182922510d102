use Rattle.std.proofs.Common.{sym, subst}
use Rattle.flux_model.specs.Kinds.{kinds_at}
use Rattle.flux_hoist.specs.Sets.{held_by}
use Rattle.flux_items.specs.Rules.{AreRules}
use Rattle.flux_commands.specs.Items.{rules_of}
use Rattle.flux_commands.proofs.RuleLists.{rules_are}
use Rattle.flux_commands.proofs.Runs.{cause_refused}
use Rattle.flux_commands.proofs.loaded.items_of.Goals as goal

pub read_items-requires : goal.read_items-requires
read_items-requires c =
    let checked = c.args.checked.now in
    subst AreRules (sym c.in_ok-rules.ensures) (rules_are checked.program (kinds_at checked.sigs.nodes) (held_by checked.sets.nodes) checked.sizes c.requires)

pub returns-in_err-read_items-clause-refused : goal.returns-in_err-read_items-clause-refused
returns-in_err-read_items-clause-refused c =
    let checked = c.args.checked.now in
    let rules = rules_of checked.program (kinds_at checked.sigs.nodes) (held_by checked.sets.nodes) in
    let cause = rw c.in_ok-rules.ensures at c.in_err-read_items.ensures.cause in
    cause_refused rules c.args.text.now c.in_err-read_items.field-0.0 c.from_residual-in_err-read_items.result c.from_residual-in_err-read_items.ensures.1 cause
