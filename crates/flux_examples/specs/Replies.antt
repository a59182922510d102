-- What links are written.
use Rattle.std.specs.Prelude.{◌≡◌, List, [], ◌∷◌, codes}
use Rattle.flux_batches.specs.declared.reading.Sent.TheVariants.{Text, Failed}
use Rattle.flux_batches.specs.declared.reading.ReadLink.{ReadLink}
use Rattle.flux_doors.specs.Seen.{SeenLink}
use Rattle.flux_batches.specs.Replies.{reply_of, IsAnswered, AreAnswered, flow_behind}
use Rattle.flux_examples.specs.SmallServing.{link, link_of, told, itself, read, spoken, echoed}

-- two links that were read, of which each has sent its own text
abbrev pub both : List (ReadLink SeenLink)
both =
    read (told (codes "a") []) (Text (codes "a")) ∷ read (told (codes "b") []) (Text (codes "b")) ∷ []

-- a link of which the first byte was read, and that has one left
abbrev pub one_left : ReadLink SeenLink
one_left = read (link_of (codes "ab") (codes "b") (codes "ab") [] 0) (Text (codes "a"))

-- the same link, with the other byte read and the reply written
abbrev pub none_left : SeenLink
none_left = link_of (codes "ab") [] (codes "b") (codes "p") 0

pub record RepliesFit : Type 0 where
  -- each flow's own emissions, in order
  pub first : reply_of 0 spoken ≡ codes "ac"
  pub second : reply_of 1 spoken ≡ codes "b"
  -- a link is written its flow's reply, or a front of it where its count rose
  pub whole : IsAnswered spoken 0 (link [] [] 0) (link [] (codes "ac") 0) (Text [])
  pub front : IsAnswered spoken 0 (link [] [] 0) (link [] (codes "a") 1) (Text [])
  -- a link whose read failed is written nothing
  pub nothing : IsAnswered spoken 0 (link [] [] 1) (link [] [] 1) Failed
  -- two links are written, each its own flow's reply
  pub each : AreAnswered itself echoed 0 both
      (told (codes "a") (codes "p") ∷ told (codes "b") (codes "q") ∷ []) []
  -- only a link with a text has a flow
  pub next : flow_behind 3 (Text []) ≡ 4
  pub same : flow_behind 3 Failed ≡ 3

pub record RepliesMisfit : Type 0 where
  -- a reply isn't cut short where the link hasn't failed
  pub front : IsAnswered spoken 0 (link [] [] 0) (link [] (codes "a") 0) (Text []) → ⊥
  -- nor another flow's
  pub other : IsAnswered spoken 0 (link [] [] 0) (link [] (codes "b") 0) (Text []) → ⊥
  -- a link whose read failed isn't written the reply
  pub failed : IsAnswered spoken 0 (link [] [] 1) (link [] (codes "ac") 1) Failed → ⊥
  -- two replies aren't exchanged: neither is written to the other's link, wherever that goes back
  pub crossed : AreAnswered itself echoed 0 both
      (told (codes "a") (codes "q") ∷ told (codes "b") (codes "p") ∷ []) [] → ⊥
  pub exchanged : AreAnswered itself echoed 0 both
      (told (codes "b") (codes "p") ∷ told (codes "a") (codes "q") ∷ []) [] → ⊥
  -- no more of a link is read while it is answered
  pub read_on : AreAnswered itself echoed 0 (one_left ∷ []) (none_left ∷ []) [] → ⊥
