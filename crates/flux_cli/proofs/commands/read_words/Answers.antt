use Rattle.flux_cli.proofs.Forms.{all_asked}
use Rattle.flux_cli.proofs.commands.read_words.Goals as goal

pub returns-clause-command : goal.returns-clause-command
returns-clause-command c = λ command spells. all_asked c.args.words.now c.read_command.result command c.read_command.ensures spells
