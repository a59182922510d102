use Rattle.std.proofs.Common.{sym}
use Rattle.nodes_all.specs.Alls.{all_meaning}
use Rattle.nodes_joined.specs.Joined.{joined}
use Rattle.nodes_all.proofs.all.AllLibrary.test.Goals as goal

pub returns-in-Some-default-default : goal.returns-in-Some-default-default
unfolding all_meaning joined
returns-in-Some-default-default c = rw (sym c.in-Some-default-default.ensures) c.test.ensures

pub returns-in-None-Some-default : goal.returns-in-None-Some-default
unfolding all_meaning joined
returns-in-None-Some-default c =
    rw (sym c.in-None-Some-default.ensures, sym c.in-None-Some-default.ensures') c.holds.ensures

pub returns-in-None-None-Some : goal.returns-in-None-None-Some
unfolding all_meaning joined
returns-in-None-None-Some c =
    rw (sym c.in-None-None-Some.ensures, sym c.in-None-None-Some.ensures', sym c.in-None-None-Some.ensures'')
    c.holds-in-None-None-Some.ensures

pub returns-in-None-None-None : goal.returns-in-None-None-None
unfolding all_meaning joined
returns-in-None-None-None c =
    rw (sym c.in-None-None-None.ensures, sym c.in-None-None-None.ensures', sym c.in-None-None-None.ensures'')
    c.holds-in-None-None-None.ensures
