use Rattle.bencoding.proofs.Rising.{bytes_from, free_rises}
use Rattle.bencoding.proofs.keys.stop_of.Goals as goal

pub returns-in-None : goal.returns-in-None
returns-in-None c = rw c.in-None.is
    (free_rises c.args.front.now c.args.long (bytes_from c.args.front.now (λ k. (c.type_inv.front k).fits))
    c.requires.limit c.requires.fits)
