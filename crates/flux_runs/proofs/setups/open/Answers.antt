use Rattle.std.proofs.Common.{◌∙◌}
use Rattle.std.specs.Arc.{arc_value}
use Rattle.flux_runs.proofs.Assembled.{no_entries, all_idle, core_is}
use Rattle.flux_runs.proofs.setups.open.Goals as goal

pub new-requires : goal.new-requires
new-requires g c = c.in_ok-setup.ensures.may

pub returns : goal.returns
returns g c =
    let meaning = g.L.Meaning.meaning in
    let library = arc_value c.args.library in
    let p = c.args.checked.program in
    let is = c.in_ok-setup.ensures in
    let same = c.in_ok-core.ensures in
    record {
      program_ = c.in_ok-program.ensures ∙ is.program_;
      none = no_entries meaning library p c.args.items c.in_ok-setup.setup is c.in_ok-core.core same;
      idle = all_idle meaning library p c.args.items c.in_ok-setup.setup is c.in_ok-core.core same;
      is = core_is meaning library p c.args.items c.in_ok-setup.setup is c.in_ok-core.core same;
    }
