use Rattle.std.specs.Arc.{arc_value}
use Rattle.flux_commands.specs.BuiltIn.{built_in, docs_in}
use Rattle.flux_driver.proofs.Steps.{told_same}
use Rattle.flux_driver.proofs.Answered.{told_done}
use Rattle.flux_driver.proofs.Serves.{serves_some}
use Rattle.flux_driver.proofs.ServedBy.{by_as_seen, opened_as_seen}
use Rattle.flux_driver.proofs.ServedDone.{ready_done}
use Rattle.flux_driver.proofs.outermost.serve_words.Goals as goal

-- ---- the program is served

pub serve_ready-end-requires-clause-some : goal.serve_ready-end-requires-clause-some
serve_ready-end-requires-clause-some g c = λ κs lives. serves_some c.args.words.now _ _ c.in-Ok.ensures.spelled

pub serve_ready-end-requires-clause-sound : goal.serve_ready-end-requires-clause-sound
serve_ready-end-requires-clause-sound g c = λ κs lives. let ready = c.in-Ok.ensures.ready in ready.sound

pub serve_ready-end-requires-clause-source : goal.serve_ready-end-requires-clause-source
serve_ready-end-requires-clause-source g c = λ κs lives. let ready = c.in-Ok.ensures.ready in ready.source

pub returns-in-Ok-clause-done : goal.returns-in-Ok-clause-done
returns-in-Ok-clause-done g c =
    let see = g.D.Link.Link.seen in
    let all = arc_value c.in-Ok.ready.library in
    ready_done built_in c.args.words.now _ _ c.in-Ok.service (docs_in all) c.in-Ok.ready.checked c.in-Ok.ready.framing c.in-Ok.ensures.ready c.serve_ready-end.result c.tell_end.result c.in-Ok.ensures.spelled c.in-Ok.ensures.docs
    (by_as_seen c.in-Ok.service.replying see _ _ _ _ _ c.serve_ready-end.ensures.served)
    (opened_as_seen see c.serve_ready-end.result c.in-Ok.service.port _ _ _ _ c.serve_ready-end.ensures.opened) c.tell_end.ensures.said
    (told_same (g.S.Store.files c.args.world.now.store) (g.S.Store.files c.ready_words.new.store) (g.F.Folder.folders c.args.world.now.folder) (g.F.Folder.folders c.ready_words.new.folder) c.ready_words.ensures.kept c.ready_words.ensures.kept_folders)
    (record {
      store = c.ready_words.ensures.later;
      folder = c.ready_words.ensures.later_folder;
      out = c.serve_ready-end.ensures.later_log;
      err = c.tell_end.ensures.later;
      door = c.serve_ready-end.ensures.later;
    })
    c.in-Ok.ensures.asked c.in-Ok.ensures.counts c.in-Ok.ensures.complete c.tell_end.ensures.status

-- ---- it isn't

pub returns-in-Err-clause-done : goal.returns-in-Err-clause-done
returns-in-Err-clause-done g c =
    let files = g.S.Store.files c.args.world.now.store in
    let folders = g.F.Folder.folders c.args.world.now.folder in
    told_done built_in c.args.words.now (record { files = files; folders = folders })
    (record { files = g.S.Store.files c.ready_words.new.store; folders = g.F.Folder.folders c.ready_words.new.folder })
    (g.F.Folder.asked c.args.world.now.folder) (g.F.Folder.asked c.ready_words.new.folder) (g.S.Store.asked c.args.world.now.store) (g.S.Store.asked c.ready_words.new.store)
    (g.S.Store.faults c.args.world.now.store) (g.S.Store.faults c.ready_words.new.store) (g.F.Folder.faults c.args.world.now.folder) (g.F.Folder.faults c.ready_words.new.folder)
    (told_same files (g.S.Store.files c.ready_words.new.store) folders (g.F.Folder.folders c.ready_words.new.folder) c.ready_words.ensures.kept c.ready_words.ensures.kept_folders)
    c.ready_words.ensures.later c.ready_words.ensures.later_folder
    c.in-Err.refusal c.in-Err.ensures.asked c.in-Err.ensures.refused c.in-Err.ensures.counts c.in-Err.ensures.complete c.refuse.result _ _ _ _
    c.refuse.ensures.later c.refuse.ensures.told
