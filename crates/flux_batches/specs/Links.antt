-- Links that were read, and what they sent.
use Rattle.std.specs.Prelude.{◌≡◌, ℕ, ◌+◌, ◌<◌, pos, false, List, [], ◌∷◌, ◌++◌, length, Option}
use Rattle.std.specs.Prelude.{IfSome}
use Rattle.std.specs.Io.KnownBytes.{Consumes}
use Rattle.flux_values.specs.declared.values.Kind.TheVariants as kinds
use Rattle.flux_values.specs.declared.values.Value.TheVariants as values
use Rattle.flux_model.specs.Items.{AreValues}
use Rattle.flux_model.specs.declared.items.Item.{Item}
use Rattle.flux_outside.specs.Causes.{Rose}
use Rattle.flux_outside.specs.Readers.{TakesAtMost}
use Rattle.flux_doors.specs.declared.framing.Framing.{Framing}
use Rattle.flux_batches.specs.declared.reading.Sent.{Sent}
use Rattle.flux_batches.specs.declared.reading.Sent.TheVariants.{Text, Failed, Memory}
use Rattle.flux_batches.specs.declared.reading.ReadLink.{ReadLink}
use Rattle.flux_doors.specs.Texts.{limit_of, ends, has_front, text_of}
use Rattle.flux_doors.specs.Seen.{SeenLink, IsSame}

-- a link's text hadn't ended before its last read: fewer of its bytes than a text may have were
-- gone, and no front of these ended it
pub record HadNotEnded (framing : Framing) (left left_before : Option (List ℕ)) : Type 0 where
  pub gone : List ℕ
  pub is : Consumes left left_before gone
  pub few : length gone < limit_of framing
  pub unended : has_front (ends framing) [] gone ≡ false

-- no more of a link was read than its text needs: at most as many of its bytes as a text may have
-- are gone, and its text hadn't ended before its last read
pub record IsReadNoFurther (framing : Framing) (before after : SeenLink) : Type 0 where
  pub taken : TakesAtMost (limit_of framing) before.left after.left
  pub unended : HadNotEnded framing before.left after.left_before

-- a link was read, and no more of it than its text needs: its text is that of what it had; or its
-- count rose; or memory was short, and its count is as it was; nothing was written
abbrev pub IsSent : Framing → SeenLink → SeenLink → Sent → Type 0
IsSent framing before after (Text text) =
    IfSome before.left (λ left. text ≡ text_of framing left)
    × (after.stream.faults ≡ before.stream.faults) × (after.stream.written ≡ before.stream.written)
    × IsReadNoFurther framing before after
IsSent framing before after Failed =
    Rose before.stream.faults after.stream.faults × (after.stream.written ≡ before.stream.written)
    × IsReadNoFurther framing before after
IsSent framing before after Memory =
    (after.stream.faults ≡ before.stream.faults) × (after.stream.written ≡ before.stream.written)
    × IsReadNoFurther framing before after

-- links were read in order, each at its place, and these are left to read
abbrev pub WereRead : {K : Type 0} → (K → SeenLink) → Framing → List K → List (ReadLink K) → List K
    → Type 0
WereRead see framing links [] left = links ≡ left
WereRead see framing [] (request ∷ rest) left = ⊥
WereRead see framing (link ∷ links) (request ∷ rest) left =
    IsSame (see link) (see request.link) × IsSent framing (see link) (see request.link) request.sent
    × WereRead see framing links rest left

-- ---- items

-- a link's item: its number and its text
abbrev pub link_item : ℕ → List ℕ → Item
link_item number text = record {
  source = record { 0 = 0 };
  values = values.Int (pos number) ∷ values.Text text ∷ [];
}

-- an item of the first source, of a number and a text
abbrev pub IsLinkItem : Item → Type 0
IsLinkItem item =
    (item.source ≡ record { 0 = 0 }) × AreValues (kinds.Int ∷ kinds.Text ∷ []) item.values

-- a link whose reading failed has none
abbrev pub item_sent : ℕ → Sent → List Item
item_sent number (Text text) = link_item number text ∷ []
item_sent number Failed = []
item_sent number Memory = []

-- the items of links, which are numbered from a number on
abbrev pub items_from : {K : Type 0} → ℕ → List (ReadLink K) → List Item
items_from number [] = []
items_from number (request ∷ rest) = item_sent number request.sent ++ items_from (number + 1) rest

-- there was memory for a link's text
abbrev pub IsRead : Sent → Type 0
IsRead (Text text) = Unit {0}
IsRead Failed = Unit {0}
IsRead Memory = ⊥

-- there was memory for each text
abbrev pub AreRead : {K : Type 0} → List (ReadLink K) → Type 0
AreRead [] = Unit {0}
AreRead (request ∷ rest) = IsRead request.sent × AreRead rest
