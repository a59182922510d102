use Rattle.flux_cli.proofs.AskingThreads.{serve_asks}
use Rattle.flux_cli.proofs.needs.behind_needs.Goals as goal

pub returns-in-Serve : goal.returns-in-Serve
returns-in-Serve c = rw c.in-Serve.is (serve_asks c.args.words.now c.is_serve.result c.is_serve.ensures)
