use Rattle.std.proofs.Common.{◌∙◌, sym, refl}
use Rattle.flux_table.specs.Tables.{holders_of}
use Rattle.call_trials.proofs.Lines.{only_at, enough_from, free_from, some_none}
use Rattle.call_trials.proofs.tests.tables.may_take.Goals as goal

pub returns-in-Some : goal.returns-in-Some
returns-in-Some c = λ enough. record {
  enough = enough_from (holders_of c.args.table.now c.args.key c.args.flow.0) c.in-Some.own c.args.mode
      c.in-Some.ensures (sym c.at_least.ensures ∙ enough);
  stands = only_at c.args.table.now c.args.stood.now c.args.flow.0 c.args.key c.args.mode c.requires
      (c.if-not-stood_only_at.ensures refl);
}

pub returns-in-None : goal.returns-in-None
returns-in-None c = λ _. record {
  enough = λ own there. absurd (some_none own (sym there ∙ free_from
      (holders_of c.args.table.now c.args.key c.args.flow.0) c.in-None.ensures));
  stands = only_at c.args.table.now c.args.stood.now c.args.flow.0 c.args.key c.args.mode c.requires
      (c.if-not-stood_only_at.ensures refl);
}
