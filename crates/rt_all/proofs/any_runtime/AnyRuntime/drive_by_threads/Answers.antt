use Rattle.rt_all.proofs.Drained.{drained-ok, drained-err}
use Rattle.rt_all.proofs.any_runtime.AnyRuntime.drive_by_threads.Goals as goal

pub returns-in-Err-clause-ok : goal.returns-in-Err-clause-ok
returns-in-Err-clause-ok g c =
    drained-ok g.L.Meaning.meaning c.args.core c.in-Err.stopped.core c.in-Err.ensures.err
    c.drained.result c.drained.ensures.ok

pub returns-in-Err-clause-err : goal.returns-in-Err-clause-err
returns-in-Err-clause-err g c =
    drained-err g.L.Meaning.meaning c.args.core c.in-Err.stopped.core c.in-Err.ensures.err
    c.drained.result c.drained.ensures.err

pub returns-in-Err-drive-clause-ok : goal.returns-in-Err-drive-clause-ok
returns-in-Err-drive-clause-ok g c =
    drained-ok g.L.Meaning.meaning c.args.core c.in-Err-drive.stopped.core c.in-Err-drive.ensures.err
    c.drained-in-Err-drive.result c.drained-in-Err-drive.ensures.ok

pub returns-in-Err-drive-clause-err : goal.returns-in-Err-drive-clause-err
returns-in-Err-drive-clause-err g c =
    drained-err g.L.Meaning.meaning c.args.core c.in-Err-drive.stopped.core c.in-Err-drive.ensures.err
    c.drained-in-Err-drive.result c.drained-in-Err-drive.ensures.err

pub returns-in-Err-drive-2-clause-ok : goal.returns-in-Err-drive-2-clause-ok
returns-in-Err-drive-2-clause-ok g c =
    drained-ok g.L.Meaning.meaning c.args.core c.in-Err-drive-2.stopped.core c.in-Err-drive-2.ensures.err
    c.drained-in-Err-drive-2.result c.drained-in-Err-drive-2.ensures.ok

pub returns-in-Err-drive-2-clause-err : goal.returns-in-Err-drive-2-clause-err
returns-in-Err-drive-2-clause-err g c =
    drained-err g.L.Meaning.meaning c.args.core c.in-Err-drive-2.stopped.core c.in-Err-drive-2.ensures.err
    c.drained-in-Err-drive-2.result c.drained-in-Err-drive-2.ensures.err
