use Rattle.flux_doors.proofs.Pieces.{reads-piece}
use Rattle.flux_doors.proofs.memory_links.MemoryLinkLink.read.Goals as goal

pub returns-clause-bytes : goal.returns-clause-bytes
returns-clause-bytes c =
    reads-piece c.args.self.now.input c.as_bytes.result.now c.copy_from_slice.new.self c.args.buffer.now c.args.self.now.given c.args.self.now.piece c.min.result c.min-count.result
    c.as_bytes.ensures c.copy_from_slice.ensures.after c.min.ensures c.min-count.ensures c.args.self.now.some
