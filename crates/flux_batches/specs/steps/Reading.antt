-- A list of links that are read side by side, each at its place.
use Rattle.flux_doors.specs.declared.framing.Framing.{Framing}
use Rattle.flux_batches.specs.declared.reading.ReadLink.{ReadLink}
use Rattle.flux_batches.specs.declared.reading.Sent.TheVariants.{Memory}
use Rattle.flux_doors.specs.Seen.{SeenLink, IsSame}
use Rattle.flux_batches.specs.Links.{IsSent}

-- a link that is to be read
abbrev pub to_read : {K : Type 0} → K → ReadLink K
to_read link = record { link = link; sent = Memory }

-- one that was, at its place
pub record WasRead {K : Type 0} (see : K → SeenLink) (framing : Framing)
    (before after : ReadLink K) : Type 0 where
  pub same : IsSame (see before.link) (see after.link)
  pub sent_ : IsSent framing (see before.link) (see after.link) after.sent
