use Rattle.flux_cli.specs.Commands.{serve}
use Rattle.flux_commands.specs.BuiltIn.{built_in}
use Rattle.flux_driver.proofs.Steps.{told_same}
use Rattle.flux_driver.proofs.Answered.{put_done, told_done}
use Rattle.flux_driver.proofs.outermost.act.Goals as goal

pub returns-in-Ok-clause-done : goal.returns-in-Ok-clause-done
returns-in-Ok-clause-done g c =
    let files = g.S.Store.files c.args.world.now.store in
    let folders = g.F.Folder.folders c.args.world.now.folder in
    put_done built_in c.args.words.now (record { files = files; folders = folders })
    (record { files = g.S.Store.files c.prepare_words.new.store; folders = g.F.Folder.folders c.prepare_words.new.folder })
    (g.F.Folder.asked c.args.world.now.folder) (g.F.Folder.asked c.prepare_words.new.folder) (g.S.Store.asked c.args.world.now.store) (g.S.Store.asked c.prepare_words.new.store)
    (g.S.Store.faults c.args.world.now.store) (g.S.Store.faults c.prepare_words.new.store) (g.F.Folder.faults c.args.world.now.folder) (g.F.Folder.faults c.prepare_words.new.folder)
    (told_same files (g.S.Store.files c.prepare_words.new.store) folders (g.F.Folder.folders c.prepare_words.new.folder) c.prepare_words.ensures.kept c.prepare_words.ensures.kept_folders)
    c.prepare_words.ensures.later c.prepare_words.ensures.later_folder
    c.in-Ok.prepared c.in-Ok.ensures.asked c.in-Ok.ensures.done c.in-Ok.ensures.counts c.in-Ok.ensures.complete (λ file serving spelled. c.requires.printed (serve file serving) spelled tt) c.print.result _ _ _ _ _
    c.print.ensures.later.0 c.print.ensures.later.1 c.print.ensures.put

pub returns-in-Err-clause-done : goal.returns-in-Err-clause-done
returns-in-Err-clause-done g c =
    let files = g.S.Store.files c.args.world.now.store in
    let folders = g.F.Folder.folders c.args.world.now.folder in
    told_done built_in c.args.words.now (record { files = files; folders = folders })
    (record { files = g.S.Store.files c.prepare_words.new.store; folders = g.F.Folder.folders c.prepare_words.new.folder })
    (g.F.Folder.asked c.args.world.now.folder) (g.F.Folder.asked c.prepare_words.new.folder) (g.S.Store.asked c.args.world.now.store) (g.S.Store.asked c.prepare_words.new.store)
    (g.S.Store.faults c.args.world.now.store) (g.S.Store.faults c.prepare_words.new.store) (g.F.Folder.faults c.args.world.now.folder) (g.F.Folder.faults c.prepare_words.new.folder)
    (told_same files (g.S.Store.files c.prepare_words.new.store) folders (g.F.Folder.folders c.prepare_words.new.folder) c.prepare_words.ensures.kept c.prepare_words.ensures.kept_folders)
    c.prepare_words.ensures.later c.prepare_words.ensures.later_folder
    c.in-Err.refusal c.in-Err.ensures.asked c.in-Err.ensures.refused c.in-Err.ensures.counts c.in-Err.ensures.complete c.refuse.result _ _ _ _
    c.refuse.ensures.later c.refuse.ensures.told
