use Rattle.bencoding.proofs.Rising.{IsLevel}
use Rattle.bencoding.proofs.keys.first_stop.Given as goal

abbrev pub invariant-loop-at : goal.invariant-loop-at
invariant-loop-at l = IsLevel l.key l.front l.long l.at
