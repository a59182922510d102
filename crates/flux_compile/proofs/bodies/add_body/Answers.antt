use Rattle.std.proofs.Common.{◌+◌, ◌<◌, length, arith}
use Rattle.flux_model.specs.declared.programs.Body.TheVariants.{Abstract}
use Rattle.flux_model.specs.Numbered.{parts_of}
use Rattle.flux_compile.proofs.soundness.Sizes.{length_members}
use Rattle.flux_compile.proofs.bodies.add_body.Goals as goal

pub arms_from-requires : goal.arms_from-requires
arms_from-requires c =
    let all = length_members c.in-Abstract.cases in
    let room : length c.args.code.now + parts_of (Abstract c.in-Abstract.cases) + 1 < 4294967296 = rw c.in-Abstract.is at c.requires in
    rw (c.as_slice.ensures, c.len.ensures) (omega (arith, room, all))
