use Rattle.flux_verify.proofs.Shaping.{last_above, none_above}
use Rattle.flux_verify.proofs.shapes.is_above.Goals as goal

pub returns-in-Some : goal.returns-in-Some
returns-in-Some c = last_above c.args.classes.now c.in-Some.last.now c.args.class c.in-Some.ensures

pub returns-in-None : goal.returns-in-None
returns-in-None c = none_above c.args.classes.now c.args.class c.in-None.ensures
