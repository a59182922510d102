use Rattle.flux_compile.proofs.Apart.{sound_apart}
use Rattle.flow_trials.proofs.public_calls.answer_calls.Goals as goal

pub tell_answered-requires : goal.tell_answered-requires
tell_answered-requires c = sound_apart _ _ _ c.in_ok-checked.ensures.sound
