-- Links that are answered side by side, each at its place. No promise cites it.
use Rattle.std.specs.Prelude.{ℕ, zero, suc, List, [], ◌∷◌}
use Rattle.flow_model.specs.declared.journals.Entry.{Entry}
use Rattle.flux_batches.specs.declared.reading.ReadLink.{ReadLink}
use Rattle.flux_doors.specs.Seen.{SeenLink, IsUnread}
use Rattle.flux_batches.specs.Replies.{IsAnswered, flow_behind}

-- the flow of the link at a place, where the first link with an item has this one
abbrev pub flow_at : {K : Type 0} → ℕ → List (ReadLink K) → ℕ → ℕ
flow_at flow [] place = flow
flow_at flow (request ∷ rest) zero = flow
flow_at flow (request ∷ rest) (suc place) = flow_at (flow_behind flow request.sent) rest place

-- a link was answered, at its place, with no more of it read
pub record WasAnswered {K : Type 0} (see : K → SeenLink) (entries : List Entry) (flow : ℕ)
    (before after : ReadLink K) : Type 0 where
  pub same : IsUnread (see before.link) (see after.link)
  pub answered : IsAnswered entries flow (see before.link) (see after.link) before.sent
