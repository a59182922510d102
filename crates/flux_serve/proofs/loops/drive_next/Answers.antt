use Rattle.flux_serve.proofs.loops.drive_next.Goals as goal

pub returns-clause-before : goal.returns-clause-before
returns-clause-before g c before log = (before _ _ _ _ _ _ _ c.requires.out c.requires.numbers c.drive.ensures).none log
