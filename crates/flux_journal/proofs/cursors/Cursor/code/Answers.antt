use Rattle.flux_journal.proofs.Parted.{code_none}
use Rattle.flux_journal.proofs.cursors.Cursor.code.Goals as goal

pub returns-in-None : goal.returns-in-None
returns-in-None c = let none = rw c.in-None.is at c.read_decimal.ensures in code_none c.args.self.now.rest.now none
