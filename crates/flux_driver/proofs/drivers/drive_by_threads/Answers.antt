use Rattle.flux_driver.proofs.Driven.{driven_to}
use Rattle.flux_driver.proofs.drivers.drive_by_threads.Goals as goal

pub returns-in-Ok : goal.returns-in-Ok
returns-in-Ok g c =
    driven_to g.L.Meaning.meaning c.args.runtime c.args.core c.in-Ok.core c.requires c.in-Ok.ensures.ok
    (rw c.by.ensures at c.in-Ok.ensures.order)
