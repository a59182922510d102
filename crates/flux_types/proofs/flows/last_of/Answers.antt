use Rattle.std.proofs.Common.{◌∙◌, sym, ap}
use Rattle.std.specs.Option.{option_copied}
use Rattle.flux_types.proofs.Lasts.{last_some}
use Rattle.flux_types.proofs.flows.last_of.Goals as goal

pub returns-in-Some : goal.returns-in-Some
returns-in-Some c = last_some c.args.first.now c.args.others.now c.in-Some.last.now (sym (ap option_copied c.in-Some.is) ∙ c.last.ensures.value)
