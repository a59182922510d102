use Rattle.flux_docs.proofs.Once.{gives_docs, is_unread}
use Rattle.flux_docs.proofs.reading.read_docs.Goals as goal

pub returns-clause-docs : goal.returns-clause-docs
returns-clause-docs g c = gives_docs (g.F.Folder.folders c.args.folder.now) c.args.dir.now c.read_folder.result c.read_folder.ensures.told

pub returns-clause-unread : goal.returns-clause-unread
returns-clause-unread g c = is_unread (g.F.Folder.folders c.args.folder.now) c.args.dir.now c.read_folder.result c.read_folder.ensures.told
