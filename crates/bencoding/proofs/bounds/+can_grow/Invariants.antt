use Rattle.bencoding.proofs.bounds.+can_grow.Given as goal

abbrev pub decreases-can_grow : goal.decreases-can_grow
decreases-can_grow l = l.low
