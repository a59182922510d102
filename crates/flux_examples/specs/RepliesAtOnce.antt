-- What links are written before their batch is over.
use Rattle.std.specs.Prelude.{List, [], ◌∷◌, codes}
use Rattle.flow_model.specs.declared.journals.Entry.{Entry}
use Rattle.flow_model.specs.declared.journals.Event.TheVariants.{End}
use Rattle.flow_model.specs.declared.journals.Outcome.TheVariants.{Good}
use Rattle.flux_batches.specs.declared.reading.Sent.TheVariants.{Text, Failed}
use Rattle.flux_serve.specs.AtOnce.{IsAnsweredSoFar, AreAnsweredSoFar}
use Rattle.flux_examples.specs.SmallServing.{link, told, itself, says}
use Rattle.flux_examples.specs.Replies.{both}

-- flow 0 emitted `a` and `c` and has its `end`; flow 1 emitted `b` and has none yet
abbrev pub so_far : List Entry
so_far =
    says 0 (codes "a") ∷ says 1 (codes "b") ∷ says 0 (codes "c")
    ∷ record { flow = record { 0 = 0 }; event = End Good } ∷ []

pub record AtOnceFits : Type 0 where
  -- a link may not be written to yet, whether its flow has its `end` or not
  pub ended : IsAnsweredSoFar so_far 0 (link [] [] 0) (link [] [] 0) (Text [])
  pub live : IsAnsweredSoFar so_far 1 (link [] [] 0) (link [] [] 0) (Text [])
  -- one whose flow has its `end` may have the reply, or a front of it where its count rose
  pub whole : IsAnsweredSoFar so_far 0 (link [] [] 0) (link [] (codes "ac") 0) (Text [])
  pub front : IsAnsweredSoFar so_far 0 (link [] [] 0) (link [] (codes "a") 1) (Text [])
  -- of two links the first has its reply
  pub each : AreAnsweredSoFar itself so_far 0 both
      (told (codes "a") (codes "ac") ∷ told (codes "b") [] ∷ [])

pub record AtOnceMisfits : Type 0 where
  -- a link isn't written what its flow emitted before the `end`
  pub early : IsAnsweredSoFar so_far 1 (link [] [] 0) (link [] (codes "b") 0) (Text []) → ⊥
  -- nor a front of the reply where it hasn't failed, nor another flow's
  pub front : IsAnsweredSoFar so_far 0 (link [] [] 0) (link [] (codes "a") 0) (Text []) → ⊥
  pub other : IsAnsweredSoFar so_far 0 (link [] [] 0) (link [] (codes "b") 0) (Text []) → ⊥
  -- one whose read failed isn't written anything
  pub failed : IsAnsweredSoFar so_far 0 (link [] [] 1) (link [] (codes "ac") 1) Failed → ⊥
  -- no link is lost
  pub lost : AreAnsweredSoFar itself so_far 0 both (told (codes "a") (codes "ac") ∷ []) → ⊥
