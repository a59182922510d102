use Rattle.std.proofs.lemmas.Bool.Decides.{Decides-eqb}
use Rattle.std.proofs.lemmas.Slice.Eq.{strip_prefix_is}
use Rattle.flux_cli.proofs.Strips.{found_front, no_front}
use Rattle.flux_cli.proofs.names.strip.Goals as goal

pub returns-clause-found : goal.returns-clause-found
returns-clause-found c = found_front c.args.word.now c.args.mark.now c.strip_prefix.result (strip_prefix_is Decides-eqb c.args.word.now c.args.mark.now c.strip_prefix.result c.strip_prefix.ensures.cases)

pub returns-clause-none : goal.returns-clause-none
returns-clause-none c = no_front c.args.word.now c.args.mark.now c.strip_prefix.result (strip_prefix_is Decides-eqb c.args.word.now c.args.mark.now c.strip_prefix.result c.strip_prefix.ensures.cases)
