use Rattle.std.proofs.Common.{inl, refl}
use Rattle.flux_journal.proofs.Journaled.{headed_read, head_bad, headless_well, headed_well}
use Rattle.flux_journal.proofs.journals.read_all.Goals as goal

pub returns-then-not-is_headed-clause-head : goal.returns-then-not-is_headed-clause-head
returns-then-not-is_headed-clause-head c = λ other. absurd (other (headless_well c.args.bytes.now c.if-not-is_headed.ensures))

pub returns-then-is_head-clause-cause : goal.returns-then-is_head-clause-cause
returns-then-is_head-clause-cause c =
    headed_read c.args.program.now c.args.bytes.now c.split_line.result.0.now c.split_line.result.1.now c.count_lines.result c.if-not-is_headed.ensures c.split_line.ensures c.count_lines.ensures (c.if-is_head.ensures.0 refl) c.read_entries-then-is_head.result c.read_entries-then-is_head.ensures

pub returns-then-is_head-clause-head : goal.returns-then-is_head-clause-head
returns-then-is_head-clause-head c = λ other.
    absurd (other (headed_well c.args.bytes.now c.split_line.result.0.now c.split_line.result.1.now c.count_lines.result c.if-not-is_headed.ensures c.split_line.ensures c.count_lines.ensures (c.if-is_head.ensures.0 refl)))

pub returns-else-is_head-clause-cause : goal.returns-else-is_head-clause-cause
returns-else-is_head-clause-cause c =
    inl (head_bad c.args.bytes.now c.split_line.result.0.now c.split_line.result.1.now c.count_lines.result c.count_lines.type_inv c.if-not-is_headed.ensures c.split_line.ensures c.count_lines.ensures (λ is. let so = c.if-is_head.ensures.1 is in absurd cc))
