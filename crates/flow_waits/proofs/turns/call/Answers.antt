use Rattle.std.proofs.Common.{Some, ◌∙◌, sym, ap}
use Rattle.flow_waits.proofs.Finishing.{finish-makes}
use Rattle.flow_waits.proofs.turns.call.Goals as goal

pub returns-clause-ok : goal.returns-clause-ok
returns-clause-ok g c =
    finish-makes g.L.Meaning.meaning c.args.core.now c.finish.new.self c.args.job.now.flow c.in_ok-done.field-0.inputs
    c.in_ok-done.field-0.answer c.in_ok-finish.field-0
    (c.requires.begun ∙ ap Some (sym c.in_ok-done.ensures.inputs))
    (rw c.in_ok-done.ensures.flow at c.in_ok-finish.ensures.ok)
