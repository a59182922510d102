use Rattle.trial_programs.proofs.Made.{may_run}
use Rattle.flow_trials.proofs.Opened.{is_opened}
use Rattle.flow_trials.proofs.readying.open.Goals as goal

pub new-requires : goal.new-requires
new-requires g c =
    may_run g.L.Meaning.meaning c.args.program c.args.plans c.args.items c.args.library c.in_ok-setup.setup
    c.in_ok-setup.ensures c.requires

pub returns : goal.returns
returns g c =
    is_opened g.L.Meaning.meaning c.args.program c.args.plans c.args.items c.args.library c.in_ok-setup.setup
    c.in_ok-setup.ensures c.in_ok-core.core c.in_ok-core.ensures
