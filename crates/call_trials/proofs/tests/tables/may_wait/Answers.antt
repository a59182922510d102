use Rattle.std.proofs.Common.{◌∙◌, ap, refl, not}
use Rattle.flux_table.specs.Tables.{holders_of}
use Rattle.call_trials.proofs.Lines.{nowhere, free_from_none}
use Rattle.call_trials.proofs.tests.tables.may_wait.Goals as goal

pub returns-then-stood_nowhere : goal.returns-then-stood_nowhere
returns-then-stood_nowhere c = λ none. record {
  free = free_from_none (holders_of c.args.table.now c.args.key c.args.flow.0) c.holds.result c.holds.ensures
      (c.is_none.ensures ∙ ap not none);
  stands = nowhere c.args.table.now c.args.stood.now c.args.flow.0 c.requires (c.if-stood_nowhere.ensures refl);
}
