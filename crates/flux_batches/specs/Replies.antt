-- Replies, and links that were answered.
use Rattle.std.specs.Prelude.{◌≡◌, ℕ, ◌+◌, nat_eq, if◌then◌else◌, List, [], ◌∷◌, ◌++◌, Option}
use Rattle.flow_model.specs.declared.journals.Event.{Event}
use Rattle.flow_model.specs.declared.journals.Event.TheVariants.{Take, Wait, Enter, Choose, Call}
use Rattle.flow_model.specs.declared.journals.Event.TheVariants.{Exit, Drop, End}
use Rattle.flow_model.specs.declared.journals.Entry.{Entry}
use Rattle.flux_outside.specs.Streams.{WroteOrBroke}
use Rattle.flux_batches.specs.declared.reading.Sent.{Sent}
use Rattle.flux_batches.specs.declared.reading.Sent.TheVariants.{Text, Failed, Memory}
use Rattle.flux_batches.specs.declared.reading.ReadLink.{ReadLink}
use Rattle.flux_doors.specs.Seen.{SeenLink, IsUnread, TakesBack}

-- what an event emits: a call what it answers, and no other anything
abbrev pub emitted : Event → List ℕ
emitted (Call made) = made.answer.emits
emitted (Take key mode) = []
emitted (Wait key mode) = []
emitted (Enter node) = []
emitted (Choose place) = []
emitted (Exit node outcome) = []
emitted (Drop key) = []
emitted (End outcome) = []

-- the reply of a flow: what its calls emit, in order
abbrev pub reply_of : ℕ → List Entry → List ℕ
reply_of flow [] = []
reply_of flow (entry ∷ entries) =
    (if nat_eq entry.flow.0 flow then emitted entry.event else []) ++ reply_of flow entries

-- a link with an item is written its flow's reply, or a front of it where its count rose; every
-- other is written nothing
abbrev pub IsAnswered : List Entry → ℕ → SeenLink → SeenLink → Sent → Type 0
IsAnswered entries flow before after (Text text) =
    WroteOrBroke before.stream after.stream (reply_of flow entries)
IsAnswered entries flow before after Failed = after.stream ≡ before.stream
IsAnswered entries flow before after Memory = after.stream ≡ before.stream

-- the flow of the next link with an item
abbrev pub flow_behind : ℕ → Sent → ℕ
flow_behind flow (Text text) = flow + 1
flow_behind flow Failed = flow
flow_behind flow Memory = flow

-- links were answered in order, from a flow on, and given back as these, each at its place, with no
-- more of them read; those are left
abbrev pub AreAnswered : {K : Type 0} → (K → SeenLink) → List Entry → ℕ → List (ReadLink K) → List K
    → List (ReadLink K) → Type 0
AreAnswered see entries flow requests [] left = requests ≡ left
AreAnswered see entries flow [] (back ∷ backs) left = ⊥
AreAnswered see entries flow (request ∷ rest) (back ∷ backs) left =
    IsUnread (see request.link) (see back) × IsAnswered entries flow (see request.link) (see back) request.sent
    × AreAnswered see entries (flow_behind flow request.sent) rest backs left

-- all links were answered, and given back to the door
pub record AreAllAnswered {L : Type 0} (see : L → SeenLink) (entries : List Entry)
    (requests : List (ReadLink L)) (before after : Option (List L)) : Type 0 where
  pub backs : List L
  pub taken : TakesBack before after backs
  pub answered : AreAnswered see entries 0 requests backs []
