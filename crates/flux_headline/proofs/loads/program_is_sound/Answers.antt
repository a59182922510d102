use Rattle.flux_headline.proofs.LoadDeclared.{declared}
use Rattle.flux_headline.proofs.LoadSound.{program_sound}
use Rattle.flux_headline.proofs.loads.program_is_sound.Goals as goal

pub returns : goal.returns
returns c = record { declared = declared; sound = λ docs. program_sound docs }
