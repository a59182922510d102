use Rattle.flux_spelling.proofs.Literals.{literal_read, literal_fault}
use Rattle.flux_spelling.proofs.reading.read_text.Goals as goal

pub returns-in-Ok : goal.returns-in-Ok
returns-in-Ok c = rw c.from_vec.ensures (literal_read c.args.bytes.now c.in-Ok.text.items c.in-Ok.length c.in-Ok.ensures)

pub returns-in-Err : goal.returns-in-Err
returns-in-Err c = literal_fault c.args.bytes.now c.in-Err.fault c.in-Err.ensures
