use Rattle.flux_upheld.proofs.Sounds.{declarations-sound}
use Rattle.flux_upheld.proofs.laws.declarations_are_sound.Goals as goal

pub returns : goal.returns
returns c = declarations-sound
