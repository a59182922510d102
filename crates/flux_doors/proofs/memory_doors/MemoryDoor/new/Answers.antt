use Rattle.flux_doors.specs.steps.Queues.{links_of}
use Rattle.flux_doors.proofs.Batches.{queued-links, queued-count}
use Rattle.flux_doors.proofs.memory_doors.MemoryDoor.new.Goals as goal

pub batches-preserved : goal.batches-preserved
batches-preserved c =
    let last = c.in-Some.ensures.taken in
    let queued = c.in_ok-queue_of.ensures in
    let more = c.in_ok-push_front.ensures.items in
    let before = c.batches.invariant in (
      queued-links c.args.batches c.batches.batches c.pop.new.self c.in-Some.batch c.batches.later.items c.push_front.new.self.items c.in_ok-queue_of.field-0 last before.0 queued.links more,
      queued-count c.batches.batches c.pop.new.self c.in-Some.batch c.batches.later.items c.push_front.new.self.items c.in_ok-queue_of.field-0 (links_of c.args.batches) last before.1 queued.count more,
    )
