use Rattle.flux_laws.proofs.Ends.{none_live_is_whole}
use Rattle.flux_audit.proofs.Keeping.{rules_make_legal, legal_keeps_rules, whole_has_ends}
use Rattle.flux_audit.proofs.laws.rules_are_legal.Goals as goal

pub returns : goal.returns
returns c = record {
  make = rules_make_legal;
  keep = legal_keeps_rules;
  ends = none_live_is_whole;
  whole = whole_has_ends;
}
