use Rattle.flux_cli.proofs.Forms.{serve_needs}
use Rattle.flux_driver.proofs.outermost.top_alone.Goals as goal

pub act-requires-clause-printed : goal.act-requires-clause-printed
act-requires-clause-printed g c = λ κs lives command spelled is. c.requires command spelled (serve_needs command is)
