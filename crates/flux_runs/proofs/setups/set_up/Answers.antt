use Rattle.std.specs.Arc.{arc_value}
use Rattle.flux_compile.proofs.Apart.{sound_apart}
use Rattle.flux_runs.proofs.Assembled.{all_set_up}
use Rattle.flux_runs.proofs.setups.set_up.Goals as goal

pub compile-requires : goal.compile-requires
compile-requires g c = record { apart = sound_apart _ _ _ c.requires.sound }

pub returns : goal.returns
returns g c =
    all_set_up g.L.Meaning.meaning c.args.checked.program c.in_ok-plans.plans c.args.items (arc_value c.args.library)
    c.assemble.result c.requires c.in_ok-plans.ensures.plans c.assemble.ensures
