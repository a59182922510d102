use Rattle.std.proofs.Common.{subst}
use Rattle.flow_shared.specs.Journals.{ArePlacesOf}
use Rattle.flow_shared.proofs.Results.{last_of}
use Rattle.flow_shared.proofs.shared.Shared.close.Goals as goal

pub returns : goal.returns
returns g c =
    last_of c.args.seat c.turn-core.result c.turn-core.ensures
    (subst (λ s. ArePlacesOf s.seen s.places) c.seat.view_is c.seat.invariant.places_)
