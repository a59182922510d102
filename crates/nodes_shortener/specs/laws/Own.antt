-- The library keeps the laws of a library (an `impl` takes its laws' proofs from here).
use Rattle.flux_library.specs.Libraries.{IsLawful}
use Rattle.flux_library.specs.laws.Types.{types_short}
use Rattle.nodes_shortener.specs.Own.{own_meaning}
use Rattle.nodes_shortener.specs.laws.Nodes.{nodes_lawful}

pub own_lawful : {S : Type 0} (library : S) → IsLawful own_meaning
unfolding own_meaning
own_lawful library = record { short = types_short; nodes = nodes_lawful }
