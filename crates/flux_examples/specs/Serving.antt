-- Which programs are served, and how serving ends.
use Rattle.std.specs.Prelude.{List, [], ◌∷◌, codes}
use Rattle.flux_values.specs.declared.meanings.Role.TheVariants.{HeadSource, Plain}
use Rattle.flux_doors.specs.declared.framing.Framing.TheVariants.{Head, Line}
use Rattle.flux_doors.specs.Seen.{SeenLink}
use Rattle.flux_serve.specs.declared.batches.ServeEnd.{ServeEnd}
use Rattle.flux_serve.specs.declared.batches.ServeEnd.TheVariants.{Closed, Counted, Door, Memory}
use Rattle.flux_sources.specs.Sources.{IsServed, IsNotServed}
use Rattle.flow_model.specs.declared.journals.Entry.{Entry}
use Rattle.flow_model.specs.declared.journals.Event.TheVariants.{Enter}
use Rattle.flux_serve.specs.declared.orders.BatchOrder.TheVariants.{Any, Round, Listed}
use Rattle.flux_serve.specs.Orders.{IsInOrder}
use Rattle.flux_serve.specs.Batches.{Service, empty_cells}
use Rattle.flux_serve.specs.Ends.{Sight, HasStopped}
use Rattle.flux_examples.specs.Small.{no, by}
use Rattle.flux_examples.specs.Legality.{failing, failed}
use Rattle.flux_examples.specs.Orders.{side_by_side}
use Rattle.flux_examples.specs.SmallServing.{link, itself, with_role, line, sources_of_one, door}

-- a program that reads heads
abbrev pub heads : Service
heads = record {
  program = sources_of_one (line ∷ []);
  framing = Head;
  order = Any;
  meaning = with_role HeadSource;
}

-- serving it stopped at its first batch
abbrev pub Stops : Sight SeenLink → Sight SeenLink → ServeEnd → Type 0
Stops before after end = HasStopped itself heads empty_cells 0 0 before after end

-- nobody waits at a door
abbrev pub nobody : List (List SeenLink)
nobody = [] ∷ []

-- somebody does
abbrev pub somebody : List (List SeenLink)
somebody = (link (codes "a") [] 0 ∷ []) ∷ []

pub record ServingFits : Type 0 where
  -- a batch of one flow goes flow after flow
  pub in_order : IsInOrder Round failing failed
  -- the links of one source of heads are read as heads
  pub heads_ : IsServed (with_role HeadSource) (sources_of_one (line ∷ [])) Head
  -- a program without a source isn't served, nor one with two, nor one whose node reads no links
  pub none : IsNotServed (with_role HeadSource) (sources_of_one [])
  pub several : IsNotServed (with_role HeadSource) (sources_of_one (line ∷ line ∷ []))
  pub plain : IsNotServed (with_role Plain) (sources_of_one (line ∷ []))
  -- serving ends where nobody comes any more, and where the door failed
  pub closed : Stops (door nobody 0 0) (door nobody 0 0) Closed
  pub failed : Stops (door somebody 0 0) (door somebody 1 0) Door

pub record ServingMisfits : Type 0 where
  -- the links of a source of heads aren't read as lines
  pub lines : IsServed (with_role HeadSource) (sources_of_one (line ∷ [])) Line → ⊥
  -- the door isn't closed while somebody waits, nor was a later accept made after its end
  pub closed : Stops (door somebody 0 0) (door somebody 0 0) Closed → ⊥
  pub later : Stops (door nobody 0 0) (door nobody 0 1) Closed → ⊥
  -- a door whose count is as before hasn't failed, and one that failed has lost no link
  pub failed : Stops (door somebody 0 0) (door somebody 0 0) Door → ⊥
  pub lost : Stops (door somebody 0 0) (door nobody 1 0) Door → ⊥
  -- the count of later accepts that failed never falls, whether a batch was driven or not
  pub fallen : (before after : List (List SeenLink))
      → Stops (door before 0 1) (door after 0 0) Memory → ⊥
  -- no batch ends it since as many were served as were wanted
  pub counted : (before after : Sight SeenLink) → Stops before after Counted → ⊥
  -- a batch that goes flow after flow doesn't begin with its second flow, nor one with the first
  -- whose script lists the second
  pub turned : (later : List Entry) → IsInOrder Round side_by_side (by 1 (Enter (no 1)) ∷ later) → ⊥
  pub unlisted : (later : List Entry)
      → IsInOrder (Listed (record { 0 = 1 } ∷ [])) side_by_side (by 0 (Enter (no 0)) ∷ later) → ⊥
