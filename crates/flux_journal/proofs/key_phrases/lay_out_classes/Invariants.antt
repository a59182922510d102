use Rattle.std.proofs.Common.{◌≡◌, take, map}
use Rattle.flux_journal.specs.steps.KeyPhrases.{class_phrases_of}
use Rattle.flux_journal.proofs.key_phrases.lay_out_classes.Given as goal

abbrev pub invariant-loop-class : goal.invariant-loop-class
invariant-loop-class l = l.phrases ≡ map class_phrases_of (take l.class-index l.classes)
