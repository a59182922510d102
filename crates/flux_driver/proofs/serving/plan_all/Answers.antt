use Rattle.flux_compile.proofs.Apart.{sound_apart}
use Rattle.flux_driver.proofs.serving.plan_all.Goals as goal

pub compile-requires : goal.compile-requires
compile-requires g c = record { apart = sound_apart _ _ _ c.requires.sound }
