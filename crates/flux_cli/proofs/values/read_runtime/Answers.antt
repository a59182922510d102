use Rattle.flux_cli.proofs.Numbers.{no_script}
use Rattle.flux_cli.proofs.values.read_runtime.Goals as goal

pub returns-in-None : goal.returns-in-None
returns-in-None c = λ runtime is.
    let none = rw c.in-None.is at c.in_ok-numbers.ensures in
    let spelled = rw c.in-Some.is at is in
    no_script c.in-Some.value.now c.in-Some-strip.list.now c.in-Some-strip.ensures.found none runtime spelled
