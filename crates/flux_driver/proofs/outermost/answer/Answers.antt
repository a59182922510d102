use Rattle.flux_driver.proofs.outermost.answer.Goals as goal

pub returns-clause-done : goal.returns-clause-done
returns-clause-done g c = rw (c.in-Ok.is, c.in-Err.is) tt
