use Rattle.flux_journal.specs.Spelled.{BeginsPut}
use Rattle.flux_journal.proofs.Failing.{on_bad, puts_fail}
use Rattle.flux_journal.proofs.Parted.{each_push}
use Rattle.flux_journal.proofs.Called.{put_once}
use Rattle.flux_journal.proofs.Missing.{puts_bad}
use Rattle.flux_journal.proofs.cursors.Cursor.puts.Goals as goal

pub returns-in_err-put : goal.returns-in_err-put
returns-in_err-put c =
    puts_fail c.args.program.now c.args.self.now.rest.now _ c.in_err-put.field-0.0 c.from_residual.result c.from_residual.ensures.1
    (on_bad c.in_err-put.field-0.0 c.in_err-put.ensures (puts_bad c.args.program.now c.requires c.args.self.now.rest.now c.puts.self.rest.now c.puts.puts c.puts.invariant))

pub puts-preserved : goal.puts-preserved
puts-preserved c =
    let p = c.args.program.now in
    let begins = rw c.in-Some.is at c.in_ok-put.ensures in
    rw c.in_ok-add.ensures.added (each_push (BeginsPut p) (put_once p c.requires) c.puts.puts c.in-Some.put c.args.self.now.rest.now c.puts.self.rest.now c.put.new.self.rest.now c.puts.invariant begins)
