use Rattle.std.proofs.Common.{subst, sym}
use Rattle.flux_simulate.specs.steps.Calls.{AreSmall}
use Rattle.flux_simulate.proofs.Further.{further-small}
use Rattle.flux_simulate.proofs.Opening.{all-begin, last-stays}
use Rattle.flux_simulate.proofs.simulating.settle.Goals as goal

pub begin-requires-clause-begins : goal.begin-requires-clause-begins
begin-requires-clause-begins g c =
    all-begin g.L.Meaning.meaning c.go_on.new.core c.go_on.new.clock c.in_ok-go_on.ensures.goes
    c.in_ok-go_on.ensures.none

pub begin-requires-clause-last : goal.begin-requires-clause-last
begin-requires-clause-last g c =
    last-stays c.args.costs.now c.args.clock.now c.go_on.new.clock c.go_on.ensures.ended c.go_on.ensures.running
    c.requires.last

pub begin-requires-clause-small : goal.begin-requires-clause-small
begin-requires-clause-small g c =
    subst (AreSmall g.L.Meaning.meaning c.go_on.new.core c.args.costs.now) (sym c.go_on.ensures.processors)
    (further-small g.L.Meaning.meaning c.args.core.now c.go_on.new.core c.args.costs.now
    c.args.clock.now.processors c.go_on.ensures.further c.requires.small)
